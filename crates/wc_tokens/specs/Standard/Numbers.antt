-- Integer literals (Core 1.0, 6.3.1).
use Rattle.std.specs.Prelude.{ℕ, ◌-◌, ◌%◌, ◌^◌, ◌<◌, ◌≤◌, List, ◌∷◌}
use Rattle.wc_tokens.specs.Standard.Digits.{Digits}

-- a natural number: decimal digits, or `0x` and hexadecimal digits
pub data Natural : List ℕ → ℕ → Type 0 where
  decimal : {text : List ℕ} {n : ℕ} → Digits 10 text n → Natural text n
  hexadecimal : {digits : List ℕ} {n : ℕ} → Digits 16 digits n → Natural (48 ∷ 120 ∷ digits) n

-- a number without a sign, or behind a plus or a minus sign
pub data Signed : Type 0 where
  Unsigned : ℕ → Signed
  Plus : ℕ → Signed
  Minus : ℕ → Signed

-- a literal, by its sign
pub data Literal : List ℕ → Signed → Type 0 where
  unsigned : {text : List ℕ} {n : ℕ} → Natural text n → Literal text (Unsigned n)
  plus : {text : List ℕ} {n : ℕ} → Natural text n → Literal (43 ∷ text) (Plus n)
  minus : {text : List ℕ} {n : ℕ} → Natural text n → Literal (45 ∷ text) (Minus n)

-- a literal of so many bits: below 2^bits without a sign, else from -2^(bits-1) to 2^(bits-1) - 1
abbrev pub FitsBits : ℕ → Signed → Type 0
FitsBits bits (Unsigned n) = n < 2 ^ bits
FitsBits bits (Plus n) = n < 2 ^ (bits - 1)
FitsBits bits (Minus n) = n ≤ 2 ^ (bits - 1)

-- the bits as an unsigned number: a negative number's two's complement
abbrev pub bits_of : ℕ → Signed → ℕ
bits_of bits (Unsigned n) = n
bits_of bits (Plus n) = n
bits_of bits (Minus n) = (2 ^ bits - n) % 2 ^ bits
