-- What holds of each item of a list.
use Rattle.std.proofs.Common.{◌≡◌, ℕ, zero, suc, ◌+◌, ◌<◌, ◌≤◌, List, [], ◌∷◌, length, get_or, drop, refl, sym, ap}
use Rattle.std.proofs.Common.{subst, arith}
use Rattle.std.specs.List.{AllByRecursion}
use Rattle.std.proofs.lemmas.List.{drop_all}

drop-first : {A : Type 0} (xs : List A) (i : ℕ) (x d : A) → x ≡ get_or xs i d → i < length xs
    → drop i xs ≡ x ∷ drop (suc i) xs
drop-first [] i x d is lt = absurd (omega arith)
drop-first (y ∷ xs) zero x d is lt = rw is refl
drop-first (y ∷ xs) (suc i) x d is lt = drop-first xs i x d is (omega arith)

-- over a list by an index, from its end
pub each-less : {A : Type 0} (F : A → Type 0) (xs : List A) (i : ℕ) (x d : A) → x ≡ get_or xs i d → i < length xs → F x
    → (AllByRecursion F (drop i xs) → AllByRecursion F xs) → AllByRecursion F (drop (i + 1) xs) → AllByRecursion F xs
each-less F xs i x d is lt h k rest =
    let e : drop (i + 1) xs ≡ drop (suc i) xs = (let n : i + 1 ≡ suc i = omega arith in ap (λ k. drop k xs) n) in
    k (subst (AllByRecursion F) (sym (drop-first xs i x d is lt)) (h, subst (AllByRecursion F) e rest))

pub each-none : {A : Type 0} (F : A → Type 0) (xs : List A) (i : ℕ) → length xs ≤ i
    → (AllByRecursion F (drop i xs) → AllByRecursion F xs) → AllByRecursion F xs
each-none F xs i le k = k (subst (AllByRecursion F) (sym (drop_all i xs le)) tt)

-- by a bound on each number
pub each-item : (bound : ℕ) (xs : List ℕ) → ((k : ℕ) → get_or xs k 0 < bound) → AllByRecursion (λ x. x < bound) xs
each-item bound [] h = tt
each-item bound (x ∷ xs) h = (h 0, each-item bound xs (λ k. h (suc k)))
