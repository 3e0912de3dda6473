-- Strings, and the bytes that they stand for (Core 1.0, 6.3.3).
use Rattle.std.specs.Prelude.{◌≡◌, ◌≢◌, ℕ, ◌+◌, ◌*◌, ◌≤◌, ◌==◌, List, [], ◌∷◌, ◌++◌, Option, Some, None, encode_utf8}
use Rattle.std.specs.Prelude.{if◌then◌else◌}
use Rattle.std.specs.Char.{IsScalar}
use Rattle.wc_tokens.specs.Standard.Digits.{IsDigit, Digits, digit_of}

-- The byte stands for itself: it is of a character from U+0020 up, except for U+007F, the quote and the
-- backslash.
abbrev pub IsPlain : ℕ → Type 0
IsPlain c = (32 ≤ c) × (c ≢ 127) × (c ≢ 34) × (c ≢ 92)

-- what the letter behind a backslash stands for: \t, \n, \r, \", \' and \\
abbrev pub escaped : ℕ → Option ℕ
escaped c =
    if c == 116 then Some 9
    else (if c == 110 then Some 10
    else (if c == 114 then Some 13
    else (if c == 34 then Some 34
    else (if c == 39 then Some 39
    else (if c == 92 then Some 92
    else None)))))

-- one element of a string, and the bytes that it stands for: `\hh` for one byte, `\u{h}` for a character
pub data Element : List ℕ → List ℕ → Type 0 where
  plain : (c : ℕ) → IsPlain c → Element (c ∷ []) (c ∷ [])
  escape : (c : ℕ) {value : ℕ} → escaped c ≡ Some value → Element (92 ∷ c ∷ []) (value ∷ [])
  byte : (high low : ℕ) → IsDigit 16 high → IsDigit 16 low
      → Element (92 ∷ high ∷ low ∷ []) ((16 * digit_of high + digit_of low) ∷ [])
  unicode : {digits : List ℕ} {n : ℕ} → Digits 16 digits n → IsScalar n
      → Element (92 ∷ 117 ∷ 123 ∷ (digits ++ 125 ∷ [])) (encode_utf8 n)

-- elements one after another
pub data Elements : List ℕ → List ℕ → Type 0 where
  none : Elements [] []
  more : {part rest value values : List ℕ} → Element part value → Elements rest values
      → Elements (part ++ rest) (value ++ values)

-- a string: elements between two quotes
pub record IsString (text bytes : List ℕ) : Type 0 where
  pub body : List ℕ
  pub text_is : text ≡ 34 ∷ (body ++ 34 ∷ [])
  pub elements : Elements body bytes

-- no element begins a text
abbrev pub NoElement : List ℕ → Type 0
NoElement text = (part value rest : List ℕ) → Element part value → text ≢ part ++ rest

-- a text begins with elements, as many as there are, and goes on with what follows them
pub record EndsElements (text rest : List ℕ) : Type 0 where
  pub body : List ℕ
  pub bytes : List ℕ
  pub text_is : text ≡ body ++ rest
  pub elements : Elements body bytes
  pub ended : NoElement rest
