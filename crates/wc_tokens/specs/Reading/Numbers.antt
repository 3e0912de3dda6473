-- What words read as numbers.
use Rattle.std.specs.Prelude.{ℕ, nat_le, ◌==◌, ◌+◌, ◌-◌, ◌/◌, ◌<◌, ◌≤◌, if◌then◌else◌}
use Rattle.wc_tokens.specs.declared.numbers.Num.{Num}
use Rattle.wc_tokens.specs.declared.numbers.Num.TheVariants.{Value, Range, NotANumber}

-- A word read as numbers: the one below a limit that it spells, or that it spells one from the limit on, or
-- none at all.
abbrev pub IsNum : (ℕ → Type 0) → ℕ → Num → Type 0
IsNum Spells limit (Value n) = Spells n × (n < limit)
IsNum Spells limit Range = (n : ℕ) × Spells n × (limit ≤ n)
IsNum Spells limit NotANumber = (n : ℕ) → ¬ (Spells n)

-- the same number if it is at most the largest one
abbrev pub limited : Num → ℕ → Num
limited (Value n) max = if nat_le n max then Value n else Range
limited Range max = Range
limited NotANumber max = NotANumber

-- the two's complement of the number if that is negative, in as many bits as the largest number has
abbrev pub negated : Num → ℕ → Num
negated (Value n) max = if n == 0 then Value 0 else (if nat_le n (max / 2 + 1) then Value (max + 1 - n) else Range)
negated Range max = Range
negated NotANumber max = NotANumber
