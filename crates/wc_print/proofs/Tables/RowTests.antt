-- Tables: what each row passes, the row of a number does.
use Rattle.std.proofs.Common.{◌≡◌, ℕ, zero, suc, ◌+◌, ◌<◌, Bool, true, false, ◌&&◌, List, [], ◌∷◌, length, get_or}
use Rattle.std.proofs.Common.{refl, arith, add-zero}
use Rattle.std.specs.List.{list_all}

pub both-first : (a b : Bool) → (a && b) ≡ true → a ≡ true
both-first true b e = refl
both-first false b e = absurd cc

pub both-second : (a b : Bool) → (a && b) ≡ true → b ≡ true
both-second true b e = e
both-second false b e = absurd cc

-- each row passes the test of its number, the first one that of this number
unfoldable pub each_row : {A : Type 0} → (ℕ → A → Bool) → ℕ → List A → Bool
each_row test n [] = true
each_row test n (r ∷ rs) = test n r && each_row test (suc n) rs

pub row-passes : {A : Type 0} (test : ℕ → A → Bool) (none : A) (rs : List A) (n i : ℕ) → each_row test n rs ≡ true
    → i < length rs
    → test (n + i) (get_or rs i none) ≡ true
unfolding each_row
row-passes test none [] n i e lt = absurd (omega arith)
row-passes test none (r ∷ rs) n zero e lt = rw add-zero (both-first (test n r) _ e)
row-passes test none (r ∷ rs) n (suc i) e lt =
    let short : i < length rs = omega (arith, lt) in
    let same : suc n + i ≡ n + suc i = omega arith in
    rw same at (row-passes test none rs (suc n) i (both-second (test n r) _ e) short)

-- what each row is, one of them is
pub row-test : {A : Type 0} (test : A → Bool) (none : A) (rs : List A) (i : ℕ) → list_all test rs ≡ true → i < length rs
    → test (get_or rs i none) ≡ true
row-test test none [] i e lt = absurd (omega arith)
row-test test none (r ∷ rs) zero e lt = both-first (test r) _ e
row-test test none (r ∷ rs) (suc i) e lt =
    row-test test none rs i (both-second (test r) _ e) (omega (arith, lt))
