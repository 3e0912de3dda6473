-- An input is one module, or stops at one place for one reason.
use Rattle.std.proofs.Common.{◌≡◌, ℕ, ◌+◌, List, [], ◌∷◌, ◌++◌, length, Ok, Err, ◌⊎◌, inl, inr, refl, sym, ap, subst}
use Rattle.std.proofs.Common.{◌∙◌, append_assoc, arith}
use Rattle.std.proofs.lemmas.List.{length-append}
use Rattle.wc_binary.specs.declared.fault.BinWhy.{BinWhy}
use Rattle.wc_binary.specs.Standard.Phrase.{Halt, halt, Spells, Stops}
use Rattle.wc_ast.specs.declared.module.Module.{Module}
use Rattle.wc_binary.specs.declared.section.Section.{Section}
use Rattle.wc_binary.specs.declared.section.SectionKind.{SectionKind}
use Rattle.wc_binary.specs.Standard.Style.{free}
use Rattle.wc_binary.specs.Standard.Sections.{id_of, content, after, nothing}
use Rattle.wc_binary.specs.Standard.Module.{preamble, parts_of, reached, AreSections, StopsSections, StopsCounts}
use Rattle.wc_binary.specs.Standard.Module.{put_all, RisesBy, StopB}
use Rattle.wc_binary.specs.declared.parts.Parts.{Parts}
use Rattle.wc_binary.proofs.sections.Parts.{module-known, counts-agree}
use Rattle.wc_binary.proofs.phrases.Laws.{one-spelled, spelled-or-stopped, one-stop}

-- where a section that may begin here stops
abbrev StopsAt : ℕ → ℕ → ℕ → List ℕ → Halt → Type 0
StopsAt last p x c f =
    ((r : BinWhy) × (id_of last x ≡ Err r) × (f ≡ halt p r (p + 1))) ⊎
    ((id : SectionKind) × (id_of last x ≡ Ok id) × Stops (content id) (p + 1) c f)

-- the first section of two readings is one
same-first : (last x y : ℕ) (i j : SectionKind) (a b c d : List ℕ) (s t : Section) → x ∷ (a ++ c) ≡ y ∷ (b ++ d)
    → id_of last x ≡ Ok i → id_of last y ≡ Ok j → Spells (content i) a s → Spells (content j) b t
    → (a ≡ b) × (s ≡ t) × (c ≡ d)
same-first last x y i j a b c d s t e hi hj h k =
    let heads : x ≡ y = cc in
    let tails : a ++ c ≡ b ++ d = cc in
    let ids : i ≡ j = cc in
    let r = one-spelled {A = Section} (content j) a b c d s t (rw ids at h) k tails in
    let both : b ++ c ≡ b ++ d = rw r.0 at tails in
    (r.0, r.1, same-rest b c d both)
  where
    same-rest : (b c d : List ℕ) → b ++ c ≡ b ++ d → c ≡ d
    same-rest [] c d e = e
    same-rest (x ∷ b) c d e = same-rest b c d (let f : b ++ c ≡ b ++ d = cc in f)

no-first : (last p x y : ℕ) (i : SectionKind) (a c d : List ℕ) (s : Section) (f : Halt) → x ∷ (a ++ c) ≡ y ∷ d
    → id_of last x ≡ Ok i → Spells (content i) a s → StopsAt last p y d f → ⊥
no-first last p x y i a c d s f e hi h (inl k) = let heads : x ≡ y = cc in let w = k.1 in cc
no-first last p x y i a c d s f e hi h (inr k) =
    let heads : x ≡ y = cc in
    let tails : a ++ c ≡ d = cc in
    let w = k.1 in
    let ids : i ≡ k.0 = cc in
    spelled-or-stopped {A = Section} (content k.0) (p + 1) a c s f (rw ids at h) (rw (← tails) at k.2)

one-first : (last p x : ℕ) (c : List ℕ) (f g : Halt) → StopsAt last p x c f → StopsAt last p x c g → f ≡ g
one-first last p x c f g (inl h) (inl k) =
    let a = h.1 in let b = k.1 in let why : h.0 ≡ k.0 = cc in h.2 ∙ ap (λ (r : BinWhy). halt p r (p + 1)) why ∙ sym k.2
one-first last p x c f g (inl h) (inr k) = let a = h.1 in let b = k.1 in absurd cc
one-first last p x c f g (inr h) (inl k) = let a = h.1 in let b = k.1 in absurd cc
one-first last p x c f g (inr h) (inr k) =
    let a = h.1 in let b = k.1 in
    let ids : h.0 ≡ k.0 = cc in
    one-stop {A = Section} (content k.0) (p + 1) c f g (rw ids at h.2) k.2

same-sections : (last : ℕ) (ss ts : List Section) (x y : List ℕ) → x ≡ y → AreSections free last ss x
    → AreSections free last ts y → ss ≡ ts
same-sections last [] [] x y e h k = refl
same-sections last [] (t ∷ ts) x y e h k = let a = k.4 in absurd cc
same-sections last (s ∷ ss) [] x y e h k = let a = h.4 in absurd cc
same-sections last (s ∷ ss) (t ∷ ts) x y e h k =
    let r = same-first last h.0 k.0 h.1 k.1 h.2 k.2 h.3 k.3 s t (sym h.4 ∙ e ∙ k.4) h.5 k.5 h.6 k.6 in
    let one = r.1 in
    let ih = same-sections (after last t) ss ts h.3 k.3 r.2 (rw one at h.8) k.8 in
    cc

-- a stop behind the sections ts
module _ (g : Halt) where
  sections-or-stop : (last o : ℕ) (ss ts : List Section) (x a c : List ℕ) (b : ℕ) → AreSections free last ss x
      → x ≡ a ++ b ∷ c → AreSections free last ts a → StopsAt (reached last ts) (o + length a) b c g → ⊥
  sections-or-stop last o [] [] x a c b h e k s = absurd cc
  sections-or-stop last o (t ∷ ss) [] x a c b h e k s =
      let whole : h.0 ∷ (h.2 ++ h.3) ≡ b ∷ c = sym h.4 ∙ e ∙ ap (λ (z : List ℕ). z ++ b ∷ c) k in
      no-first last (o + length a) h.0 b h.1 h.2 h.3 c t g whole h.5 h.6 s
  sections-or-stop last o [] (t ∷ ts) x a c b h e k s =
      let w = k.4 in let v : a ++ b ∷ c ≡ (k.0 ∷ (k.2 ++ k.3)) ++ b ∷ c = ap (λ (z : List ℕ). z ++ b ∷ c) w in absurd cc
  sections-or-stop last o (u ∷ ss) (t ∷ ts) x a c b h e k s =
      let whole : h.0 ∷ (h.2 ++ h.3) ≡ k.0 ∷ (k.2 ++ (k.3 ++ b ∷ c)) = sym h.4 ∙ e ∙ ap (λ (z : List ℕ). z ++ b ∷ c) k.4
      ∙ ap (λ (z : List ℕ). k.0 ∷ z) (append_assoc k.2 k.3 (b ∷ c)) in
      let f = same-first last h.0 k.0 h.1 k.1 h.2 k.2 h.3 (k.3 ++ b ∷ c) u t whole h.5 k.5 h.6 k.6 in
      let one = f.1 in
      let place : o + length a ≡ o + 1 + length k.2 + length k.3 = omega
      (arith, ap length k.4, length-append k.2 k.3) in
      sections-or-stop (after last t) (o + 1 + length k.2) ss ts h.3 k.3 c b (rw one at h.8) f.2 k.8 (rw place at s)

module _ (f g : Halt) where
  one-place : (last o : ℕ) (ss ts : List Section) (a c d e : List ℕ) (x y : ℕ) → a ++ x ∷ c ≡ d ++ y ∷ e
      → AreSections free last ss a → AreSections free last ts d
      → StopsAt (reached last ss) (o + length a) x c f → StopsAt (reached last ts) (o + length d) y e g → f ≡ g
  one-place last o [] [] a c d e x y w h k m n =
      let both : x ∷ c ≡ y ∷ e = rw (h, k) at w in
      let heads : x ≡ y = cc in
      let tails : c ≡ e = cc in
      one-first last (o + 0) y e f g (rw (h, heads, tails) at m) (rw k at n)
  one-place last o [] (u ∷ ts) a c d e x y w h k m n =
      let whole : k.0 ∷ (k.2 ++ (k.3 ++ y ∷ e)) ≡ x ∷ c = sym
      (ap (λ (z : List ℕ). k.0 ∷ z) (append_assoc k.2 k.3 (y ∷ e)))
      ∙ sym (ap (λ (z : List ℕ). z ++ y ∷ e) k.4) ∙ sym w ∙ ap (λ (z : List ℕ). z ++ x ∷ c) h in
      absurd (no-first last (o + length a) k.0 x k.1 k.2 (k.3 ++ y ∷ e) c u f whole k.5 k.6 m)
  one-place last o (u ∷ ss) [] a c d e x y w h k m n =
      let whole : h.0 ∷ (h.2 ++ (h.3 ++ x ∷ c)) ≡ y ∷ e = sym
      (ap (λ (z : List ℕ). h.0 ∷ z) (append_assoc h.2 h.3 (x ∷ c)))
      ∙ sym (ap (λ (z : List ℕ). z ++ x ∷ c) h.4) ∙ w ∙ ap (λ (z : List ℕ). z ++ y ∷ e) k in
      absurd (no-first last (o + length d) h.0 y h.1 h.2 (h.3 ++ x ∷ c) e u g whole h.5 h.6 n)
  one-place last o (u ∷ ss) (v ∷ ts) a c d e x y w h k m n =
      let left : a ++ x ∷ c ≡ h.0 ∷ (h.2 ++ (h.3 ++ x ∷ c)) = ap (λ (z : List ℕ). z ++ x ∷ c) h.4
      ∙ ap (λ (z : List ℕ). h.0 ∷ z) (append_assoc h.2 h.3 (x ∷ c)) in
      let right : d ++ y ∷ e ≡ k.0 ∷ (k.2 ++ (k.3 ++ y ∷ e)) = ap (λ (z : List ℕ). z ++ y ∷ e) k.4
      ∙ ap (λ (z : List ℕ). k.0 ∷ z) (append_assoc k.2 k.3 (y ∷ e)) in
      let w1 = same-first last h.0 k.0 h.1 k.1 h.2 k.2 (h.3 ++ x ∷ c) (k.3 ++ y ∷ e) u v
      (sym left ∙ w ∙ right) h.5 k.5 h.6 k.6 in
      let one = w1.1 in
      let long = ap length w1.0 in
      let place : o + length a ≡ o + 1 + length k.2 + length h.3 = omega
      (arith, ap length h.4, length-append h.2 h.3) in
      let there : o + length d ≡ o + 1 + length k.2 + length k.3 = omega
      (arith, ap length k.4, length-append k.2 k.3) in
      one-place (after last v) (o + 1 + length k.2) ss ts h.3 c k.3 e x y w1.2 (rw one at h.8) k.8
      (rw (place, one) at m) (rw there at n)

-- ---- whole inputs

fronts : (x a b c d : List ℕ) → x ≡ a ++ b → x ≡ c ++ d → Spells preamble a tt → Spells preamble c tt
    → (a ≡ c) × (b ≡ d)
fronts x a b c d e f h k =
    let r = one-spelled {A = Unit {0}} preamble a c b d tt tt h k (sym e ∙ f) in
    let g : c ++ b ≡ c ++ d = rw r.0 at (sym e ∙ f) in
    (r.0, same-rest c b d g)
  where
    same-rest : (b c d : List ℕ) → b ++ c ≡ b ++ d → c ≡ d
    same-rest [] c d e = e
    same-rest (x ∷ b) c d e = same-rest b c d (let f : b ++ c ≡ b ++ d = cc in f)

pub rises-one : (x : List ℕ) (m n : Module) → RisesBy free x m → RisesBy free x n → m ≡ n
rises-one x m n h k =
    let f = fronts x h.0 h.1 k.0 k.1 h.3 k.3 h.4 k.4 in
    let s = same-sections 0 h.2 k.2 h.1 k.1 f.1 h.5 k.5 in
    module-known m n (sym h.6 ∙ ap (put_all nothing) s ∙ k.6)

-- sections that are all of a module tell as many functions as codes
rises-or-counts : (o : ℕ) (b : List ℕ) (m : Module) (ss : List Section) (f : Halt) → AreSections free 0 ss b
    → put_all nothing ss ≡ parts_of m → StopsCounts o b f → ⊥
rises-or-counts o b m ss f h e k =
    let s = same-sections 0 ss k.0 b b refl h k.1 in
    let p : put_all nothing k.0 ≡ parts_of m = ap (put_all nothing) (sym s) ∙ e in
    k.2 (ap (λ (q : Parts). length q.func_types) p ∙ counts-agree m ∙ sym (ap (λ (q : Parts). length q.codes) p))

pub rises-or-stop : (x : List ℕ) (m : Module) (f : Halt) → RisesBy free x m → StopB x f → ⊥
rises-or-stop x m f h (inl k) = let e = h.3 in spelled-or-stopped {A = Unit {0}} preamble 0 h.0 h.1 tt f h.4 (rw e at k)
rises-or-stop x m f h (inr k) =
    let w = fronts x h.0 h.1 k.0 k.1 h.3 k.2 h.4 k.3 in
    elim k.4 [
      | inl s ↦ sections-or-stop f 0 (length k.0) h.2 s.0 h.1 s.1 s.2 s.3 h.5 (w.1 ∙ s.4) s.5 s.6
      | inr s ↦ rises-or-counts (length k.0) k.1 m h.2 f (subst (λ (b : List ℕ).
          AreSections free 0 h.2 b) w.1 h.5) h.6 s
    ]

-- behind one preamble there is one fault
one-behind : (o : ℕ) (b : List ℕ) (f g : Halt) → StopsSections 0 o b f ⊎ StopsCounts o b f
    → StopsSections 0 o b g ⊎ StopsCounts o b g → f ≡ g
one-behind o b f g (inl m) (inl n) = one-place f g 0 o m.0 n.0 m.1 m.2 n.1 n.2 m.3 n.3 (sym m.4 ∙ n.4) m.5 n.5 m.6 n.6
one-behind o b f g (inl m) (inr n) = absurd (sections-or-stop f 0 o n.0 m.0 b m.1 m.2 m.3 n.1 m.4 m.5 m.6)
one-behind o b f g (inr m) (inl n) = absurd (sections-or-stop g 0 o m.0 n.0 b n.1 n.2 n.3 m.1 n.4 n.5 n.6)
one-behind o b f g (inr m) (inr n) = m.3 ∙ sym n.3

pub one-fault : (x : List ℕ) (f g : Halt) → StopB x f → StopB x g → f ≡ g
one-fault x f g (inl h) (inl k) = one-stop {A = Unit {0}} preamble 0 x f g h k
one-fault x f g (inl h) (inr k) =
    let e = k.2 in absurd (spelled-or-stopped {A = Unit {0}} preamble 0 k.0 k.1 tt f k.3 (rw e at h))
one-fault x f g (inr h) (inl k) =
    let e = h.2 in absurd (spelled-or-stopped {A = Unit {0}} preamble 0 h.0 h.1 tt g h.3 (rw e at k))
one-fault x f g (inr h) (inr k) =
    let w = fronts x h.0 h.1 k.0 k.1 h.2 k.2 h.3 k.3 in
    let front = w.0 in
    let behind = w.1 in
    one-behind (length k.0) k.1 f g (rw (front, behind) at h.4) k.4
