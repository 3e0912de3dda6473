-- A printed text as tokens (Core 1.0, 6.3), with what stands before each of them. The text ends with a line feed.
use Rattle.std.specs.Prelude.{ℕ, zero, suc, ◌+◌, ◌/◌, ◌%◌, nat_le, nat_lt, ◌==◌, Bool, not, ◌&&◌, ℤ, List, [], ◌∷◌}
use Rattle.std.specs.Prelude.{◌++◌, length, if◌then◌else◌}
use Rattle.std.specs.List.{flat_map}
use Rattle.std.specs.Fmt.{decimal, signed_decimal}
use Rattle.wc_tokens.specs.declared.token.TokenKind.{TokenKind}
use Rattle.wc_tokens.specs.declared.token.TokenKind.TheVariants.{Open, Close, Str, Word}
use Rattle.wc_tokens.specs.Standard.Lexemes.{Lexeme, spanned}

-- A token that is printed: a parenthesis, a word (6.3.2), a natural or a signed number (6.3.1), a word that ends in a
-- number, as `offset=4`, or a string that stands for bytes (6.3.3).
pub data Printed : Type 0 where
  opening : Printed
  closing : Printed
  word : List ℕ → Printed
  number : ℕ → Printed
  integer : ℤ → Printed
  part : List ℕ → ℕ → Printed
  quoted : List ℕ → Printed

-- a hexadecimal digit, in lower case
abbrev pub hex : ℕ → ℕ
hex n = if nat_lt n 10 then 48 + n else 87 + n

-- the byte stands for itself in a string: those from U+0020 to U+007E except for the quote and the backslash
abbrev pub stands : ℕ → Bool
stands b = nat_le 32 b && nat_le b 126 && not (b == 34) && not (b == 92)

-- a byte in a string: as itself, or as a backslash and two hexadecimal digits
abbrev pub escaped : ℕ → List ℕ
escaped b = if stands b then b ∷ [] else 92 ∷ hex (b / 16) ∷ hex (b % 16) ∷ []

-- the bytes of a token
abbrev pub spelled : Printed → List ℕ
spelled opening = 40 ∷ []
spelled closing = 41 ∷ []
spelled (word w) = w
spelled (number n) = decimal n
spelled (integer z) = signed_decimal z
spelled (part w n) = w ++ decimal n
spelled (quoted bytes) = 34 ∷ (flat_map escaped bytes ++ 34 ∷ [])

-- the kind that a token has in a text
abbrev pub kind_of : Printed → TokenKind
kind_of opening = Open
kind_of closing = Close
kind_of (word w) = Word
kind_of (number n) = Word
kind_of (integer z) = Word
kind_of (part w n) = Word
kind_of (quoted bytes) = Str

-- a token, and what stands before it: nothing, a space, or a line feed and so many spaces
pub data Item : Type 0 where
  next : Printed → Item
  after : Printed → Item
  below : ℕ → Printed → Item

-- so many spaces
abbrev pub spaces : ℕ → List ℕ
spaces zero = []
spaces (suc n) = 32 ∷ spaces n

-- what stands before the token
abbrev pub gap_of : Item → List ℕ
gap_of (next p) = []
gap_of (after p) = 32 ∷ []
gap_of (below n p) = 10 ∷ spaces n

-- the token of an item
abbrev pub token_of : Item → Printed
token_of (next p) = p
token_of (after p) = p
token_of (below n p) = p

-- the bytes of some items
abbrev pub printed : List Item → List ℕ
printed [] = []
printed (i ∷ is) = gap_of i ++ (spelled (token_of i) ++ printed is)

-- the bytes of a whole text, whose last line ends too
abbrev pub text : List Item → List ℕ
text [] = 10 ∷ []
text (i ∷ is) = gap_of i ++ (spelled (token_of i) ++ text is)

-- the tokens of what is left of a text of this size
abbrev pub lexemes_in : ℕ → List Item → List Lexeme
lexemes_in size [] = []
lexemes_in size (i ∷ is) =
    spanned size (kind_of (token_of i)) (spelled (token_of i)) (text is) ∷ lexemes_in size is

-- the tokens of the text, each with the bytes that it spans
abbrev pub lexemes : List Item → List Lexeme
lexemes items = lexemes_in (length (text items)) items
