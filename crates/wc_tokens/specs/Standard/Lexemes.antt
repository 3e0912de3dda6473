-- Tokens, and the texts that they make up (Core 1.0, 6.2.2 and 6.3).
use Rattle.std.specs.Prelude.{◌≡◌, ◌≢◌, ℕ, ◌-◌, ◌≤◌, nat_le, ◌==◌, Bool, true, false, ◌&&◌, ◌||◌, List, [], ◌∷◌, ◌++◌}
use Rattle.std.specs.Prelude.{length, IsUtf8, if◌then◌else◌}
use Rattle.std.specs.List.{AllByRecursion, list_any}
use Rattle.wc_tokens.specs.declared.token.TokenKind.{TokenKind}
use Rattle.wc_tokens.specs.declared.token.TokenKind.TheVariants.{Open, Close, Id, Str, Word}
use Rattle.wc_tokens.specs.Standard.Gaps.{BeginsNot, Gap}
use Rattle.wc_tokens.specs.Standard.Strings.{IsString}

-- the byte is one of these
abbrev is_among : List ℕ → ℕ → Bool
is_among bytes c = list_any (λ b. b == c) bytes

-- the characters of words and identifiers (6.3.5): digits, letters, and ! # $ % & ' * + - . / : < = > ? @ \ ^ _ ` | ~
unfoldable pub is_idchar : ℕ → Bool
is_idchar c =
    (nat_le 48 c && nat_le c 57) || (nat_le 65 c && nat_le c 90) || (nat_le 97 c && nat_le c 122)
    || is_among (33 ∷ 35 ∷ 36 ∷ 37 ∷ 38 ∷ 39 ∷ 42 ∷ 43 ∷ 45 ∷ 46 ∷ 47 ∷ 58 ∷ []) c
    || is_among (60 ∷ 61 ∷ 62 ∷ 63 ∷ 64 ∷ 92 ∷ 94 ∷ 95 ∷ 96 ∷ 124 ∷ 126 ∷ []) c

-- the byte is such a character
abbrev pub IsIdchar : ℕ → Type 0
IsIdchar c = is_idchar c ≡ true

-- the text doesn't begin with an idchar
abbrev pub BeginsNoIdchar : List ℕ → Type 0
BeginsNoIdchar [] = Unit {0}
BeginsNoIdchar (c ∷ text) = is_idchar c ≡ false

-- a run of idchars is an identifier where it is a `$` and at least one more
abbrev pub kind_of_run : List ℕ → TokenKind
kind_of_run [] = Word
kind_of_run (c ∷ []) = Word
kind_of_run (c ∷ d ∷ run) = if c == 36 then Id else Word

-- a run of idchars of this kind
pub record IsRun (kind : TokenKind) (text : List ℕ) : Type 0 where
  pub some : text ≢ []
  pub idchars : AllByRecursion IsIdchar text
  pub kind_is : kind_of_run text ≡ kind

-- the text has the form of its kind
abbrev pub HasForm : TokenKind → List ℕ → Type 0
HasForm Open text = text ≡ 40 ∷ []
HasForm Close text = text ≡ 41 ∷ []
HasForm Id text = IsRun Id text
HasForm Str text = (bytes : List ℕ) × IsString text bytes
HasForm Word text = IsRun Word text

-- What may follow a token of the kind: no `;` an opening parenthesis, since that would begin a comment, and no
-- idchar a run of them.
abbrev pub MayPrecede : TokenKind → List ℕ → Type 0
MayPrecede Open rest = BeginsNot 59 rest
MayPrecede Close rest = Unit {0}
MayPrecede Id rest = BeginsNoIdchar rest
MayPrecede Str rest = Unit {0}
MayPrecede Word rest = BeginsNoIdchar rest

-- a token in front of the rest of a text
pub record IsToken (kind : TokenKind) (text rest : List ℕ) : Type 0 where
  pub form : HasForm kind text
  pub apart : MayPrecede kind rest

-- a token with the bytes that it spans
pub record Lexeme : Type 0 where
  pub kind : TokenKind
  pub text : List ℕ
  pub start : ℕ
  pub stop : ℕ

-- the place of what is left of a text of a size
abbrev pub place : ℕ → List ℕ → ℕ
place size rest = size - length rest

-- the token of this text before the rest, in a text of a size
abbrev pub spanned : ℕ → TokenKind → List ℕ → List ℕ → Lexeme
spanned size kind text rest =
    record { kind = kind; text = text; start = place size (text ++ rest); stop = place size rest }

-- `Lexed size text ts`: the text, the rest of one of this size, is gaps and the tokens ts in turn
pub data Lexed : ℕ → List ℕ → List Lexeme → Type 0 where
  ended : {size : ℕ} → Lexed size [] []
  gap : {size : ℕ} {text rest : List ℕ} {ts : List Lexeme} → Gap text rest → Lexed size rest ts → Lexed size text ts
  token : {size : ℕ} {kind : TokenKind} {text rest : List ℕ} {ts : List Lexeme} → IsToken kind text rest
      → Lexed size rest ts → Lexed size (text ++ rest) (spanned size kind text rest ∷ ts)

-- the most bytes that a text may have
abbrev pub longest : ℕ
longest = 4294967295

-- the tokens of a whole text
pub record Lexes (text : List ℕ) (ts : List Lexeme) : Type 0 where
  pub short : length text ≤ longest
  pub utf8 : IsUtf8 text
  pub lexed : Lexed (length text) text ts
