-- Induction over a number's groups of seven bits.
use Rattle.std.proofs.Common.{ℕ, zero, suc, ◌/◌, ◌<◌, ◌≤◌, inl, inr, arith}
use Rattle.std.proofs.lemmas.Bool.{cases_lt}

by_groups_within : (limit : ℕ) → 0 < limit → (P : ℕ → Type 0) → ((n : ℕ) → n < limit → P n)
    → ((n : ℕ) → limit ≤ n → P (n / 128) → P n)
    → (k n : ℕ) → n ≤ k → P n
by_groups_within limit some P low high zero n h = low n (omega arith)
by_groups_within limit some P low high (suc k) n h =
    elim (cases_lt n limit) [
      | inl lt ↦ low n lt
      | inr le ↦ high n le (by_groups_within limit some P low high k (n / 128) (omega arith))
    ]

-- what holds below a limit, and of a number where it holds of the number without its seven low bits
pub by_groups : (limit : ℕ) → 0 < limit → (P : ℕ → Type 0) → ((n : ℕ) → n < limit → P n)
    → ((n : ℕ) → limit ≤ n → P (n / 128) → P n)
    → (n : ℕ) → P n
by_groups limit some P low high n = by_groups_within limit some P low high n n (omega arith)
