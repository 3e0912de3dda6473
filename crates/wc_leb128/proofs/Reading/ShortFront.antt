-- The unsigned integer that bytes begin with, one byte after the other.
use Rattle.std.specs.Prelude.{MatchOption, IfSome, ◌↔◌}
use Rattle.std.specs.Borrow.{Bor}
use Rattle.std.proofs.Common.{◌≡◌, ℕ, ◌+◌, ◌-◌, ◌*◌, ◌^◌, ◌<◌, ◌≤◌, List, [], ◌∷◌, ◌++◌, length, Option, Some, None}
use Rattle.std.proofs.Common.{inl, inr, refl, sym, ap, subst, ◌∙◌, arith}
use Rattle.std.proofs.lemmas.List.{append_cancel_left}
use Rattle.wc_leb128.specs.Standard.Integers.{U, IsAtFront}
use Rattle.wc_leb128.proofs.Laws.UnsignedLaws.{one-value}

-- ---- one stands there

pub last-front : (N b : ℕ) (x y : List ℕ) → x ≡ b ∷ y → b < 128 → b < 2 ^ N → IsAtFront (U N) x b y
last-front N b x y e lt fits = (b ∷ [], e, inl (omega (arith, lt), fits, refl, refl))

pub next-front : (N b m : ℕ) (x r y : List ℕ) → x ≡ b ∷ r → 128 ≤ b → b < 256 → 7 < N → IsAtFront (U (N - 7)) r m y
    → IsAtFront (U N) x (128 * m + (b - 128)) y
next-front N b m x r y e le lt more (a, f, s) =
    (b ∷ a, e ∙ ap (λ (z : List ℕ). b ∷ z) f, inr (omega (arith, le), omega (arith, lt), more, m, s, refl))

-- and no other
pub only-front : (N v w : ℕ) (x y : List ℕ) → IsAtFront (U N) x w y → v ≡ w → (n : ℕ) (z : List ℕ)
    → IsAtFront (U N) x n z ↔ ((v ≡ n) × (y ≡ z))
only-front N v w x y (a, e, s) is n z = (
  (λ (b, f, t).
      let both : a ++ y ≡ b ++ z = sym e ∙ f in
      let same = one-value N a b y z w n s t both in
      let back : a ++ y ≡ a ++ z = both ∙ ap (λ (c : List ℕ). c ++ z) (sym same.0) in
      (is ∙ same.1, append_cancel_left a y z back)),
  (λ (f, g).
      let P : ℕ → Type 0 = λ k. IsAtFront (U N) x k z in
      subst P (sym is ∙ f) (subst (IsAtFront (U N) x w) g (a, e, s))),
)

-- ---- none stands there

abbrev pub NoFront : ℕ → List ℕ → Type 0
NoFront N x = (n : ℕ) (y : List ℕ) → IsAtFront (U N) x n y → ⊥

pub empty-none : (N : ℕ) (x : List ℕ) → length x ≡ 0 → NoFront N x
empty-none N x e n y ([], f, s) = s
empty-none N [] e n y (b ∷ a, f, s) = absurd cc
empty-none N (c ∷ x) e n y (b ∷ a, f, s) = absurd (omega (arith, e))

-- the byte is too great for the last one
pub great-none : (N b : ℕ) (x r : List ℕ) → x ≡ b ∷ r → N ≤ 7 → 2 ^ N ≤ b → NoFront N x
great-none N b x r e few great n y ([], f, s) = s
great-none N b x r e few great n y (d ∷ a, f, s) =
    let g : b ∷ r ≡ d ∷ (a ++ y) = sym e ∙ f in
    let same : b ≡ d = cc in
    elim s [ inl t ↦ omega arith | inr t ↦ omega arith ]

-- the byte goes on, and what follows it is none
pub behind-none : (N b : ℕ) (x r : List ℕ) → x ≡ b ∷ r → 128 ≤ b → NoFront (N - 7) r → NoFront N x
behind-none N b x r e le none n y ([], f, s) = s
behind-none N b x r e le none n y (d ∷ a, f, s) =
    let g : b ∷ r ≡ d ∷ (a ++ y) = sym e ∙ f in
    let same : b ≡ d = cc in
    let tail : r ≡ a ++ y = cc in
    elim s [ inl t ↦ omega arith | inr t ↦ none t.3 y (a, tail, t.4) ]

pub never : (N : ℕ) (x : List ℕ) → NoFront N x → (n : ℕ) (y : List ℕ) → IsAtFront (U N) x n y ↔ ⊥
never N x none n y = (none n y, (λ h. absurd h))

-- ---- what was found stands there

pub found-front : (N : ℕ) (x : List ℕ) (r : Option (ℕ × Bor (List ℕ)))
    → ((n : ℕ) (y : List ℕ) → IsAtFront (U N) x n y ↔ MatchOption r ⊥ (λ f. (f.0 ≡ n) × (f.1.now ≡ y)))
    → IfSome r (λ f. IsAtFront (U N) x f.0 f.1.now)
found-front N x None h = tt
found-front N x (Some f) h = (h f.0 f.1.now).1 (refl, refl)
