-- Digits, and the numbers that they spell (Core 1.0, 6.3.1).
use Rattle.std.specs.Prelude.{ℕ, ◌+◌, ◌*◌, ◌<◌, List, [], ◌∷◌, ◌++◌}
use Rattle.std.specs.Char.{digit_value}

-- the value of a digit, also of one above 9 as a letter of either case; 36 for any other byte
unfoldable pub digit_of : ℕ → ℕ
digit_of c = digit_value c

-- the byte is a digit of a base
abbrev pub IsDigit : ℕ → ℕ → Type 0
IsDigit base c = digit_of c < base

-- digits of a base spell a number; a single underscore (95) may stand between two of them
pub data Digits : ℕ → List ℕ → ℕ → Type 0 where
  one : {base : ℕ} (c : ℕ) → IsDigit base c → Digits base (c ∷ []) (digit_of c)
  more : {base n : ℕ} {front : List ℕ} (c : ℕ) → Digits base front n → IsDigit base c
      → Digits base (front ++ c ∷ []) (base * n + digit_of c)
  apart : {base n : ℕ} {front : List ℕ} (c : ℕ) → Digits base front n → IsDigit base c
      → Digits base (front ++ 95 ∷ c ∷ []) (base * n + digit_of c)
