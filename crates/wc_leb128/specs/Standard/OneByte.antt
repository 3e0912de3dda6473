-- Integers of one byte. Core 1.0, 5.2.2.
use Rattle.std.specs.Prelude.{ℕ, nat_lt, ℤ, pos, ◌-ℤ◌, Option, Some, None, if◌then◌else◌}

-- the unsigned integer that a byte spells on its own, at each width of 7 bits or more
abbrev pub unsigned_in_one : ℕ → Option ℕ
unsigned_in_one b = if nat_lt b 128 then Some b else None

-- the signed one
abbrev pub signed_in_one : ℕ → Option ℤ
signed_in_one b = if nat_lt b 64 then Some (pos b) else (if nat_lt b 128 then Some (pos b -ℤ pos 128) else None)
