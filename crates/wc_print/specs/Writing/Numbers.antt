-- How a number is written: its sign, and then its digits (Core 1.0, 6.3.1).
use Rattle.std.specs.Prelude.{ℕ, zero, suc, ◌+◌, ◌/◌, ◌%◌, ℤ, pos, negsuc, List, [], ◌∷◌}
use Rattle.std.specs.Fmt.{decimal}

-- what stands before the digits: a minus, or nothing
abbrev pub sign : ℤ → List ℕ
sign (pos n) = []
sign (negsuc n) = 45 ∷ []

-- the three digits of a number below a thousand, zeros in front too
abbrev pub three_digits : ℕ → List ℕ
three_digits n = (48 + n / 100) ∷ (48 + n / 10 % 10) ∷ (48 + n % 10) ∷ []

-- the digits before the last three, of a number that has so many thousands
abbrev pub front_digits : ℕ → List ℕ
front_digits zero = []
front_digits (suc k) = decimal (suc k)

-- the last three of one that has so many thousands, or all where it has none
abbrev pub last_digits : ℕ → ℕ → List ℕ
last_digits zero n = decimal n
last_digits (suc k) n = three_digits (n % 1000)
