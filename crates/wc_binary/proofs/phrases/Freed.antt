-- What the canonical style admits, the free one does.
use Rattle.std.proofs.Common.{◌≢◌, Result, ℕ, zero, suc, List, [], ◌∷◌, inl, inr}
use Rattle.wc_body.specs.Standard.Nested.{Region, Code, empty, op, region, choice}
use Rattle.wc_body.specs.Standard.Grammar.{Grammar, Spells}
use Rattle.wc_ast.specs.declared.module.Module.{Module}
use Rattle.wc_binary.specs.declared.fault.BinWhy.{BinWhy}
use Rattle.wc_binary.specs.Standard.Expression.{Begun, letters}
use Rattle.wc_binary.specs.Standard.Style.{free, canonical}
use Rattle.wc_binary.specs.Standard.Phrase.{Phrase, gives, byte, unsigned, signed, ◌>>=◌, judged, measured}
use Rattle.wc_binary.specs.Standard.Phrase.{byte_or_signed, neat, expression, SpellsBy}
use Rattle.wc_binary.specs.declared.parts.Parts.{Parts}
use Rattle.wc_binary.specs.declared.section.SectionKind.{SectionKind}
use Rattle.wc_binary.specs.Standard.Sections.{in_order, Held, behind_id, held_by}
use Rattle.wc_binary.specs.Standard.Module.{preamble, parts_of, AreCustoms, Customs, IsSection, HasFrom, Bin, Canon}

freed-code : {A P H : Type 0} (k l : Grammar A P H) → ((b : List A) (p : P) → k.Plain b p → l.Plain b p)
    → ((b : List A) (r : Region) (t : H) → k.Begin b r t → l.Begin b r t)
    → ((b : List A) (t : H) → k.BeginIf b t → l.BeginIf b t) → ((b : List A) (t : H) → k.Else b t → l.Else b t)
    → ((b : List A) (t : H) → k.End b t → l.End b t) → ((Q : Type 0) → l.Neat Q)
    → (b : List A) (code : Code P H) → Spells k b code → Spells l b code
freed-code k l plains regions ifs elses ends liberties b empty s = s
freed-code k l plains regions ifs elses ends liberties b (op p next) s =
    (s.0, s.1, s.2, plains s.0 p s.3, freed-code k l plains regions ifs elses ends liberties s.1 next s.4)
freed-code k l plains regions ifs elses ends liberties b (region r t inside next) s = (
  s.0,
  s.1,
  s.2,
  s.3,
  s.4,
  regions s.0 r t s.5,
  freed-code k l plains regions ifs elses ends liberties s.1 inside s.6,
  ends s.2 t s.7,
  freed-code k l plains regions ifs elses ends liberties s.3 next s.8,
)
freed-code k l plains regions ifs elses ends liberties b (choice t first second next) s = (
  s.0,
  s.1,
  s.2,
  s.3,
  s.4,
  s.5,
  ifs s.0 t s.6,
  freed-code k l plains regions ifs elses ends liberties s.1 first s.7,
  elim s.8 [
    | inl none ↦ inl none
    | inr some ↦ inr (
      some.0,
      some.1,
      some.2,
      elses some.0 t some.3,
      freed-code k l plains regions ifs elses ends liberties some.1 second some.4,
      liberties (second ≢ empty),
    )
  ],
  ends s.3 t s.9,
  freed-code k l plains regions ifs elses ends liberties s.4 next s.10,
)

freed-expression : {O P H : Type 0} (table : ℕ → Result (Begun O) BinWhy) (f : O → Phrase P) (h : Phrase H)
    → ((u : O) (c : List ℕ) (p : P) → SpellsBy canonical (f u) c p → SpellsBy free (f u) c p)
    → ((c : List ℕ) (t : H) → SpellsBy canonical h c t → SpellsBy free h c t) → (b : List ℕ) (code : Code P H)
    → SpellsBy canonical (expression table f h) b code → SpellsBy free (expression table f h) b code
freed-expression table f h plains heads b code s =
    let k = letters canonical.Neat table (λ u c p. SpellsBy canonical (f u) c p) (λ c t. SpellsBy canonical h c t) in
    let l = letters free.Neat table (λ u c p. SpellsBy free (f u) c p) (λ c t. SpellsBy free h c t) in
    let inner = freed-code k l
    (λ c p q. (q.0, q.1, q.2, q.3, q.4, plains q.1 q.2 p q.5))
    (λ c r t q. (q.0, q.1, q.2, q.3, heads q.1 t q.4))
    (λ c t q. (q.0, q.1, q.2, q.3, heads q.1 t q.4))
    (λ c t q. q) (λ c t q. q) (λ Q. tt) s.0 code s.4 in
    (s.0, s.1, s.2, s.3, inner, s.5)

pub freed : {A : Type 0} (p : Phrase A) (b : List ℕ) (v : A) → SpellsBy canonical p b v → SpellsBy free p b v
freed (gives w) b v h = h
freed (byte table) b v h = h
freed (unsigned N) b v h = h.0
freed (signed N) b v h = h.0
freed (p >>= f) b v h = (h.0, h.1, h.2, h.3, freed p h.0 h.2 h.4, freed (f h.2) h.1 v h.5)
freed (judged p judge) b v h = (freed p b v h.0, h.1)
freed (measured p) b v h = (h.0, freed p b h.0 h.1, h.2)
freed (byte_or_signed test table N make) b v h =
    (h.0, h.1, h.2, elim h.3 [ inl s ↦ inl s | inr s ↦ inr (s.0, s.1, s.2.0, s.3) ])
freed (neat p Q) b v h = (freed p b v h.0, tt)
freed (expression table f h) b v k =
    freed-expression table f h (λ u c p s. freed (f u) c p s) (λ c t s. freed h c t s) b v k

freed-customs : (b : List ℕ) → Customs canonical b → Customs free b
freed-customs b h = go h.0 h.1
  where
    go : (n : ℕ) → AreCustoms canonical n b → Customs free b
    go zero h = (0, h)
    go (suc n) h = absurd h.4

freed-section : (k : SectionKind) (v : Held k) (b : List ℕ) → IsSection canonical k v b → IsSection free k v b
freed-section k v b (inl h) = inl h
freed-section k v b (inr h) = inr (h.0, h.1, freed (behind_id k) h.0 v h.2, tt)

freed-sections : (p : Parts) (ks : List SectionKind) (b : List ℕ) → HasFrom canonical p ks b → HasFrom free p ks b
freed-sections p [] b h = freed-customs b h
freed-sections p (k ∷ ks) b h = (
  h.0,
  h.1,
  h.2,
  h.3,
  freed-customs h.0 h.4,
  freed-section k (held_by k p) h.1 h.5,
  freed-sections p ks h.2 h.6,
)

pub canon-bin : (b : List ℕ) (m : Module) → Canon b m → Bin b m
canon-bin b m h = (h.0, h.1, h.2, freed preamble h.0 tt h.3, freed-sections (parts_of m) in_order h.1 h.4)
