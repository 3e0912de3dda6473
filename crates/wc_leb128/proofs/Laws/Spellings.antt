-- What the spellings of unsigned and of signed integers have in common.
use Rattle.std.proofs.Common.{◌≡◌, ℕ, ◌-◌, ◌<◌, ◌≤◌, List, [], ◌∷◌, ◌++◌, length, ◌⊎◌, inl, inr, refl, sym, arith}
use Rattle.wc_leb128.specs.Standard.Integers.{Begins, IsUnfinished}

-- behind a byte from 128 on stands an integer of seven bits fewer
pub record Continues (A : Type 0) (R : ℕ → List ℕ → A → Type 0) : Type 0 where
  pub nothing-unfinished : (N : ℕ) → IsUnfinished (R N) []
  pub begins-tail : (N b : ℕ) (a : List ℕ) → 128 ≤ b → Begins (R N) (b ∷ a) → Begins (R (N - 7)) a
  pub tail-begins : (N b : ℕ) (a : List ℕ) → 128 ≤ b → b < 256 → 7 < N → Begins (R (N - 7)) a → Begins (R N) (b ∷ a)

pub tail-unfinished : (A : Type 0) (R : ℕ → List ℕ → A → Type 0) → Continues A R → (N b : ℕ) (a : List ℕ) → 128 ≤ b
    → b < 256 → 7 < N
    → IsUnfinished (R (N - 7)) a → IsUnfinished (R N) (b ∷ a)
tail-unfinished A R l N b a le lt more h = (h.0, l.tail-begins N b (a ++ h.0 ∷ []) le lt more h.1)

-- the same list, or a longer one
abbrev pub IsOrLonger : List ℕ → List ℕ → Type 0
IsOrLonger c b = (c ≡ b) ⊎ (length b < length c)

pub behind : (b d : ℕ) (c x : List ℕ) → b ≡ d → IsOrLonger c x → IsOrLonger (b ∷ c) (d ∷ x)
behind b d c x e (inl f) = inl (rw (e, f) refl)
behind b d c x e (inr lt) = inr (omega arith)

-- a list that is the same with more behind it has nothing behind it
pub none_behind : (a c : List ℕ) → a ≡ a ++ c → c ≡ []
none_behind [] c e = sym e
none_behind (b ∷ a) c e = let f : a ≡ a ++ c = cc in none_behind a c f
