-- What memory of the caller holds.
use Rattle.std.specs.Prelude.{ℕ, ◌++◌, nat_le, List, length, drop, if◌then◌else◌}

-- the bytes at its front, and what it held behind them
abbrev pub in_front : List ℕ → List ℕ → List ℕ
in_front bytes old = bytes ++ drop (length bytes) old

-- the same where there is room for the bytes, and else what it held
abbrev pub told : List ℕ → List ℕ → List ℕ
told bytes old = if nat_le (length bytes) (length old) then in_front bytes old else old
