-- Sections in their order, with custom sections anywhere between, are sections whose ids rise.
use Rattle.std.proofs.Common.{◌≡◌, ℕ, ◌+◌, ◌<◌, List, [], ◌∷◌, None, refl, sym, ap, ◌∙◌, arith}
use Rattle.std.proofs.lemmas.List.{append-nil}
use Rattle.wc_ast.specs.declared.module.Module.{Module}
use Rattle.wc_binary.specs.declared.parts.Parts.{Parts}
use Rattle.wc_binary.specs.declared.section.Section.{Section}
use Rattle.wc_binary.specs.declared.section.SectionKind.{SectionKind}
use Rattle.wc_binary.specs.Standard.Style.{Style}
use Rattle.wc_binary.specs.Standard.Sections.{section_id, in_order, Held, absent, held_by, section_of, kind_of, nothing}
use Rattle.wc_binary.specs.Standard.Sections.{put}
use Rattle.wc_binary.specs.Standard.Module.{parts_of, HasFrom, AreSections, put_all, BinBy, RisesBy}
use Rattle.wc_binary.proofs.sections.Places.{none-above, section-number, put-same, nothing-held, kept}
use Rattle.wc_binary.proofs.sections.Rising.{Runs, behind-customs, then-rises, then-found, only-customs}

-- the ids of these go on from `last`, one by one, to the last id that there is
abbrev pub Follow : ℕ → List SectionKind → Type 0
Follow last [] = (x : ℕ) → last < x → kind_of x ≡ None
Follow last (k ∷ ks) = (section_id k ≡ last + 1) × Follow (section_id k) ks

pub all-follow : Follow 0 in_order
all-follow = (refl, (refl, (refl, (refl, (refl, (refl, (refl, (refl, (refl, (refl, (refl, none-above)))))))))))

-- no id lies between two that follow each other
no-gap : (n m x : ℕ) → m ≡ n + 1 → n < x → x < m → kind_of x ≡ None
no-gap n m x e a b = absurd (omega (arith, e))

-- nothing is there of the sections above an id
abbrev IsClear : ℕ → Parts → Type 0
IsClear last p = (k : SectionKind) → last < section_id k → held_by k p ≡ absent k

clear-put : (last : ℕ) (p : Parts) → IsClear last p → (k : SectionKind) → last < section_id k
    → put p (section_of k (absent k)) ≡ p
clear-put last p clear k lt = ap (λ (v : Held k). put p (section_of k v)) (sym (clear k lt)) ∙ put-same k p

clear-behind : (last : ℕ) (p : Parts) → IsClear last p → (k : SectionKind) → last < section_id k → (v : Held k)
    → IsClear (section_id k) (put p (section_of k v))
clear-behind last p clear k lt v j above =
    kept j p (section_of k v) (λ e. absurd (omega (arith, e, section-number k v, above)))
    ∙ clear j (omega (arith, lt, above))

module _ (s : Style) (p : Parts) where
  -- the parts with those of these sections put in place
  abbrev filled : Parts → List SectionKind → Parts
  filled base [] = base
  filled base (k ∷ ks) = filled (put base (section_of k (held_by k p))) ks

  -- to rising ids
  rises : (ks : List SectionKind) (last : ℕ) (base : Parts) → Follow last ks → IsClear last base
      → filled base ks ≡ p → (b : List ℕ) → HasFrom s p ks b → Runs s last b base p
  rises [] last base follow clear e b h =
      let r = behind-customs s h.0 last b [] base p h.1 ([], refl, e) in let same = append-nil b in rw same at r
  rises (k ∷ ks) last base follow clear e b h =
      let lt : last < section_id k = omega (arith, follow.0) in
      then-rises s k (omega (arith, follow.0)) last base p (held_by k p) (HasFrom s p ks) lt
      (clear-put last base clear k lt)
      (rises ks (section_id k) (put base (section_of k (held_by k p))) follow.1
      (clear-behind last base clear k lt (held_by k p)) e) b h

  -- and back
  back : (ks : List SectionKind) (last : ℕ) (base : Parts) → Follow last ks → IsClear last base
      → (vs : List Section) (b : List ℕ) → AreSections s last vs b → put_all base vs ≡ p → HasFrom s p ks b
  back [] last base follow clear vs b h e = only-customs s last follow vs b h
  back (k ∷ ks) last base follow clear vs b h e =
      let lt : last < section_id k = omega (arith, follow.0) in
      then-found s k (omega (arith, follow.0)) last lt (λ x. no-gap last (section_id k) x follow.0) base p
      (clear-put last base clear k lt) (clear k lt) vs b h e (HasFrom s p ks)
      (λ ws d. back ks (section_id k) (put base (section_of k (held_by k p))) follow.1
      (clear-behind last base clear k lt (held_by k p)) ws d)

pub bin-rises : (s : Style) (x : List ℕ) (m : Module) → BinBy s x m → RisesBy s x m
bin-rises s x m h =
    let r = rises s (parts_of m) in_order 0 nothing all-follow (λ k lt. nothing-held k) refl h.1 h.4 in
    (h.0, h.1, r.0, h.2, h.3, r.1, r.2)

pub rises-bin : (s : Style) (x : List ℕ) (m : Module) → RisesBy s x m → BinBy s x m
rises-bin s x m h =
    let r = back s (parts_of m) in_order 0 nothing all-follow (λ k lt. nothing-held k) h.2 h.1 h.5 h.6 in
    (h.0, h.1, h.3, h.4, r)
