-- Rows of sizes.
use Rattle.std.proofs.Common.{◌≡◌, ℕ, suc, Bool, true, false, List, [], ◌∷◌, ◌++◌, nat_lt}
use Rattle.std.proofs.Common.{refl, ap, ◌∙◌, arith, append_assoc}
use Rattle.wc_ast.specs.Kept.SizeRow.{large_mark, mark_of, large_of, sizes_at, AreSizes}

-- where the first mark is small, the others stay
pub small-first : (m : ℕ) (ms ls : List ℕ) → nat_lt m large_mark ≡ true → sizes_at (m ∷ ms) ls ≡ m ∷ sizes_at ms ls
small-first m ms [] e = refl
small-first m ms (l ∷ ls) e = rw e refl

-- one more size
pub record Pushed (ms ls : List ℕ) (n : ℕ) : Type 0 where
  pub kept : AreSizes (ms ++ mark_of n ∷ []) (ls ++ large_of n)
  pub seen : sizes_at (ms ++ mark_of n ∷ []) (ls ++ large_of n) ≡ sizes_at ms ls ++ n ∷ []

first-size : (n : ℕ) → Pushed [] [] n
first-size n = go (nat_lt n large_mark) refl
  where
    go : (b : Bool) → nat_lt n large_mark ≡ b → Pushed [] [] n
    go true e = record { kept = rw (e, e) refl; seen = rw e refl }
    go false e = record { kept = rw e refl; seen = rw e refl }

pub size-pushed : (ms ls : List ℕ) (n : ℕ) → AreSizes ms ls → Pushed ms ls n
size-pushed [] [] n are = first-size n
size-pushed [] (l ∷ ls) n are = absurd (omega arith)
size-pushed (m ∷ ms) ls n are = go (nat_lt m large_mark) refl ls are (λ k h. size-pushed ms k n h)
  where
    go : (b : Bool) → nat_lt m large_mark ≡ b → (ls : List ℕ) → AreSizes (m ∷ ms) ls
        → ((k : List ℕ) → AreSizes ms k → Pushed ms k n) → Pushed (m ∷ ms) ls n
    go true e ls are more =
        let rest = more ls (rw e at are) in
        record {
          kept = rw e rest.kept;
          seen = rw (small-first m (ms ++ mark_of n ∷ []) (ls ++ large_of n) e, small-first m ms ls e)
              (ap (λ (xs : List ℕ). m ∷ xs) rest.seen);
        }
    go false e [] are more = let no = rw e at are in absurd (omega (arith, no))
    go false e (l ∷ ls) are more =
        let k = rw e at are in
        let rest = more ls (omega (arith, k)) in
        record {
          kept = rw e (ap (λ k. suc k) rest.kept);
          seen = rw e (ap (λ (xs : List ℕ). l ∷ xs) rest.seen);
        }

-- two more sizes
pub record PushedTwo (ms ls : List ℕ) (a b : ℕ) : Type 0 where
  pub kept : AreSizes ((ms ++ mark_of a ∷ []) ++ mark_of b ∷ []) ((ls ++ large_of a) ++ large_of b)
  pub seen : sizes_at ((ms ++ mark_of a ∷ []) ++ mark_of b ∷ []) ((ls ++ large_of a) ++ large_of b)
      ≡ sizes_at ms ls ++ a ∷ b ∷ []

pub sizes-pushed : (ms ls : List ℕ) (a b : ℕ) → AreSizes ms ls → PushedTwo ms ls a b
sizes-pushed ms ls a b are =
    let first = size-pushed ms ls a are in
    let second = size-pushed (ms ++ mark_of a ∷ []) (ls ++ large_of a) b first.kept in
    record {
      kept = second.kept;
      seen =
          second.seen
          ∙ ap (λ (xs : List ℕ). xs ++ b ∷ []) first.seen
          ∙ append_assoc (sizes_at ms ls) (a ∷ []) (b ∷ []);
    }
