-- A value that stays where it is, and texts that are equal.
use Rattle.std.proofs.Common.{◌≡◌, ℕ, Bool, true, false, cond, List, Option, Some, None, is_some, refl, subst}
use Rattle.std.specs.Bool.{Decides}
use Rattle.std.specs.Str.{bytes_eq}
use Rattle.std.proofs.lemmas.Slice.Eq.{bytes_eq-Decides}

-- what has no other value is itself
pub kept : (o : Option ℕ) → o ≡ cond (is_some o) o None
kept None = refl
kept (Some k) = refl

-- a place is one
pub no_place : (o : Option ℕ) → o ≡ None → is_some o ≡ true → ⊥
no_place None e h = absurd cc
no_place (Some k) e h = absurd cc

-- texts that compare equal are equal
pub same-text : (p q : List ℕ) → bytes_eq p q ≡ true → p ≡ q
same-text p q e = let D : Bool → Type 0 = λ b. Decides b (p ≡ q) in (subst D e (bytes_eq-Decides p q)).0 refl

pub equal-text : (p : List ℕ) → bytes_eq p p ≡ true
equal-text p = by (bytes_eq p p) (bytes_eq-Decides p p)
  where
    by : (b : Bool) → Decides b (p ≡ p) → b ≡ true
    by true d = refl
    by false d = d.1 refl
