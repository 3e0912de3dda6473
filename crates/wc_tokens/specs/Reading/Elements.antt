-- How an element of a string is read, and what is read of it.
use Rattle.std.specs.Prelude.{ℕ, ◌+◌, ◌*◌, false, nat_le, nat_lt, ◌==◌, Bool, not, ◌&&◌, List, [], ◌∷◌, Option, Some}
use Rattle.std.specs.Prelude.{None, if◌then◌else◌, encode_utf8}
use lib.Utf8.{scalar}
use Rattle.wc_tokens.specs.declared.elements.Meaning.{Meaning}
use Rattle.wc_tokens.specs.declared.elements.Meaning.TheVariants.{Byte, Character}
use Rattle.wc_tokens.specs.declared.elements.Element.{Element}
use Rattle.wc_tokens.specs.Standard.Digits.{digit_of}
use Rattle.wc_tokens.specs.Standard.Strings.{escaped}
use Rattle.wc_tokens.specs.Reading.Scans.{scan}

-- what an element stands for, and what follows it
pub data FirstElement : Type 0 where
  ValueAndRest : (value rest : List ℕ) → FirstElement

-- `hh` behind a backslash
unfoldable pub read_byte : ℕ → List ℕ → Option FirstElement
read_byte high [] = None
read_byte high (low ∷ rest) =
    if nat_lt (digit_of high) 16 && nat_lt (digit_of low) 16 then Some
    (ValueAndRest ((16 * digit_of high + digit_of low) ∷ []) rest) else None

-- the closing brace of a character's number
abbrev pub read_closed : Option ℕ → List ℕ → Option FirstElement
read_closed None rest = None
read_closed (Some n) [] = None
read_closed (Some n) (c ∷ rest) = if (c == 125) && scalar n then Some (ValueAndRest (encode_utf8 n) rest) else None

-- the number in braces that was scanned, and its closing brace
abbrev pub read_number : Option (Option ℕ × List ℕ) → Option FirstElement
read_number None = None
read_number (Some (value, rest)) = read_closed value rest

-- `{h}` behind a backslash and a `u`
unfoldable pub read_unicode : List ℕ → Option FirstElement
read_unicode [] = None
read_unicode (c ∷ rest) = if c == 123 then read_number (scan 16 false (Some 0) rest) else None

-- the letter behind a backslash, by what it stands for
abbrev pub read_other : Option ℕ → ℕ → List ℕ → Option FirstElement
read_other (Some value) c rest = Some (ValueAndRest (value ∷ []) rest)
read_other None c rest = if c == 117 then read_unicode rest else read_byte c rest

-- what stands behind a backslash
unfoldable pub read_escape : List ℕ → Option FirstElement
read_escape [] = None
read_escape (c ∷ rest) = read_other (escaped c) c rest

-- a byte other than the backslash stands for itself
abbrev pub is_plain : ℕ → Bool
is_plain c = nat_le 32 c && not (c == 127) && not (c == 34)

-- the element at the front of a text
unfoldable pub read_element : List ℕ → Option FirstElement
read_element [] = None
read_element (c ∷ rest) =
    if c == 92 then read_escape rest
    else (if is_plain c then Some (ValueAndRest (c ∷ []) rest) else None)

-- the bytes that an element stands for
abbrev pub bytes_of : Meaning → List ℕ
bytes_of (Byte b) = b ∷ []
bytes_of (Character c) = encode_utf8 c

-- what is read of an element
abbrev pub first_element : Element → FirstElement
first_element e = ValueAndRest (bytes_of e.meaning) e.rest.now
