-- The spellings of integers. Core 1.0, 5.2.2.
use Rattle.std.specs.Prelude.{◌≡◌, ℕ, ◌+◌, ◌-◌, ◌*◌, ◌^◌, ◌<◌, ◌≤◌, ℤ, pos, ◌+ℤ◌, ◌-ℤ◌, ◌*ℤ◌, List, [], ◌∷◌, ◌++◌, ◌⊎◌}

-- A uN: these bytes, and no others, spell this number. The last byte is below 2^7 and below 2^N;
-- a byte from 2^7 on holds seven low bits, and a u(N-7) follows it.
abbrev pub U : ℕ → List ℕ → ℕ → Type 0
U N [] n = ⊥
U N (b ∷ bs) n =
    ((b < 2 ^ 7) × (b < 2 ^ N) × (bs ≡ []) × (n ≡ b))
    ⊎ ((2 ^ 7 ≤ b) × (b < 2 ^ 8) × (7 < N) × (m : ℕ) × U (N - 7) bs m × (n ≡ 2 ^ 7 * m + (b - 2 ^ 7)))

-- An sN. A last byte from 2^6 on stands for the number 2^7 below it.
abbrev pub S : ℕ → List ℕ → ℤ → Type 0
S N [] z = ⊥
S N (b ∷ bs) z =
    ((b < 2 ^ 6) × (b < 2 ^ (N - 1)) × (bs ≡ []) × (z ≡ pos b))
    ⊎ (((2 ^ 6 ≤ b) × (b < 2 ^ 7) × (2 ^ 7 ≤ b + 2 ^ (N - 1)) × (bs ≡ []) × (z ≡ pos b -ℤ pos (2 ^ 7)))
    ⊎ ((2 ^ 7 ≤ b) × (b < 2 ^ 8) × (7 < N)
    × (m : ℤ) × S (N - 7) bs m × (z ≡ (pos (2 ^ 7) *ℤ m) +ℤ (pos b -ℤ pos (2 ^ 7)))))

-- a list that a spelling begins with
abbrev pub Begins : {A : Type 0} → (List ℕ → A → Type 0) → List ℕ → Type 0
Begins {A} Spells a = (c : List ℕ) × (n : A) × Spells (a ++ c) n

-- a list that a longer spelling begins with
abbrev pub IsUnfinished : {A : Type 0} → (List ℕ → A → Type 0) → List ℕ → Type 0
IsUnfinished {A} Spells a = (b : ℕ) × Begins {A = A} Spells (a ++ b ∷ [])

-- the bytes begin with a spelling of this number, and these follow it
abbrev pub IsAtFront : {A : Type 0} → (List ℕ → A → Type 0) → List ℕ → A → List ℕ → Type 0
IsAtFront Spells x n y = (a : List ℕ) × (x ≡ a ++ y) × Spells a n
