-- The shortest spellings of integers. Core 1.0, 5.2.2.
use Rattle.std.specs.Prelude.{◌≡◌, ℕ, ◌-◌, ◌^◌, ◌<◌, ◌≤◌, ℤ, pos, ◌-ℤ◌, ◌≤ℤ◌, ◌<ℤ◌, List, length}

-- N bits hold the number, without a sign
abbrev pub HoldsUnsigned : ℕ → ℕ → Type 0
HoldsUnsigned N n = n < 2 ^ N

-- N bits hold the number, with a sign
abbrev pub HoldsSigned : ℕ → ℤ → Type 0
HoldsSigned N z = ((pos 0 -ℤ pos (2 ^ (N - 1))) ≤ℤ z) × (z <ℤ pos (2 ^ (N - 1)))

-- These bytes spell the number at every width that holds it. No spelling of the number, at any width, is shorter, and
-- one that is as short is the same.
pub record IsShortestSpelling {A : Type 0} (Spells : ℕ → List ℕ → A → Type 0) (Holds : ℕ → A → Type 0)
    (bytes : List ℕ) (number : A) : Type 0 where
  pub spelled : (N : ℕ) → 0 < N → Holds N number → Spells N bytes number
  pub least : (N : ℕ) (c : List ℕ) → Spells N c number → length bytes ≤ length c
  pub only : (N : ℕ) (c : List ℕ) → Spells N c number → length c ≤ length bytes → c ≡ bytes
