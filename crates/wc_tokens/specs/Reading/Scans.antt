-- How digits are scanned.
use Rattle.std.specs.Prelude.{ℕ, ◌+◌, ◌*◌, ◌^◌, nat_lt, ◌==◌, Bool, true, false, ◌&&◌, List, [], ◌∷◌, Option, Some}
use Rattle.std.specs.Prelude.{None, if◌then◌else◌, option_and_then}
use Rattle.wc_tokens.specs.Standard.Digits.{digit_of}

-- a number if 64 bits hold it
abbrev pub fitting : ℕ → Option ℕ
fitting n = if nat_lt n (2 ^ 64) then Some n else None

-- a number with one more digit, as long as 64 bits hold it
abbrev pub extended : ℕ → Option ℕ → ℕ → Option ℕ
extended base value digit = option_and_then (λ n. fitting (base * n + digit)) value

-- The longest run of digits: its value and what follows it. Before it stand digits of the given value, and
-- the last byte is a digit or else an underscore.
unfoldable pub scan : ℕ → Bool → Option ℕ → List ℕ → Option (Option ℕ × List ℕ)
scan base after_digit value [] = if after_digit then Some (value, []) else None
scan base after_digit value (c ∷ rest) =
    if nat_lt (digit_of c) base then scan base true (extended base value (digit_of c)) rest
    else (if after_digit && (c == 95) then scan base false value rest
    else (if after_digit then Some (value, c ∷ rest) else None))
