-- The first place that passes a test, with one more item behind.
use Rattle.std.proofs.Common.{◌≡◌, ℕ, ◌+◌, Bool, true, false, cond, ◌||◌, List, [], ◌∷◌, ◌++◌, length, Option, Some}
use Rattle.std.proofs.Common.{None, is_some, refl, ap, arith}
use Rattle.std.specs.List.{list_any, position_from}

push_at : (b : Bool) (i : ℕ) (old new last : Option ℕ) → new ≡ cond (is_some old) old last
    → cond b (Some i) new ≡ cond (is_some (cond b (Some i) old)) (cond b (Some i) old) last
push_at true i old new last e = refl
push_at false i old new last e = e

any_at : (b : Bool) (i : ℕ) (o : Option ℕ) (rest : Bool) → is_some o ≡ rest → is_some (cond b (Some i) o) ≡ (b || rest)
any_at true i o rest e = refl
any_at false i o rest e = e

module _ {X : Type 0} (t : X → Bool) where
  pub position-push : (i n : ℕ) (xs : List X) (x : X) → i + length xs ≡ n
      → position_from t i (xs ++ x ∷ [])
      ≡ cond (is_some (position_from t i xs)) (position_from t i xs) (cond (t x) (Some n) None)
  position-push i n [] x e = ap (λ k. cond (t x) (Some k) None) (omega (arith, e))
  position-push i n (y ∷ ys) x e = push_at (t y) i _ _ _ (position-push (i + 1) n ys x (omega (arith, e)))

  -- one has a place exactly where one passes
  pub position-any : (i : ℕ) (xs : List X) → is_some (position_from t i xs) ≡ list_any t xs
  position-any i [] = refl
  position-any i (y ∷ ys) = any_at (t y) i _ _ (position-any (i + 1) ys)
