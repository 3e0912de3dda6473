-- Strings, and the names among them.
use Rattle.std.proofs.Common.{ℕ, ◌<◌, ◌≤◌, List, [], ◌∷◌, refl, sym, codes, IsUtf8, arith, lit<, lit≤}
use Rattle.std.specs.Str.{chars, is_utf8}
use Rattle.std.proofs.lemmas.Bool.{true≢false}
use Rattle.std.proofs.lemmas.Str.{IsUtf8-from_ascii, is_utf8-from_IsUtf8}
use Rattle.std.proofs.lemmas.Str.Ascii.{IsAscii-from_all}
use Rattle.std.proofs.lemmas.List.Elements.{All-from_recursion}
use Rattle.wc_tokens.specs.declared.token.TokenKind.TheVariants as token
use Rattle.wc_tokens.specs.Standard.Digits.{digit_of, Digits}
use Rattle.wc_tokens.specs.Standard.Strings.{IsPlain, Element, Elements, IsString}
use Rattle.wc_syntax.specs.declared.kind.Kind.TheVariants as kind
use Rattle.wc_symbols.specs.Standard.Symbols.{bare}
use Rattle.wc_symbols.specs.Standard.Tokens.{StringIs}
use Rattle.wc_parse_code.specs.Standard.Tokens.{kept_token}
use Rattle.wc_parse_field.specs.Standard.Productions.Parts.{IsName}
use Rattle.wc_parse.proofs.Examples.Rows.Lexed.Tokens.{Token}

-- a small letter stands for itself
small_is_plain : (c : ℕ) → 97 ≤ c → c ≤ 122 → IsPlain c
small_is_plain c low high = (omega arith, omega arith, omega arith, omega arith)

-- so it does in quotes
pub letter_string : (c : ℕ) → 97 ≤ c → c ≤ 122 → IsString (34 ∷ c ∷ 34 ∷ []) (c ∷ [])
letter_string c low high = record {
  body = c ∷ [];
  text_is = refl;
  elements = Elements.more (Element.plain c (small_is_plain c low high)) Elements.none;
}

pub letter_utf8 : (c : ℕ) → 97 ≤ c → c ≤ 122 → IsUtf8 (c ∷ [])
letter_utf8 c low high = IsUtf8-from_ascii (c ∷ []) (IsAscii-from_all (c ∷ [])
    (All-from_recursion (λ b. b < 128) (c ∷ []) (omega arith, tt)))

-- a string that is a name
abbrev name_string : {text bytes : List ℕ} → IsString text bytes → IsUtf8 bytes → Token
name_string {text} string utf8 =
    record { form = token.Str; text = text; symbol = bare kind.Name; is = StringIs.name string utf8 }

-- and the name that it is
string_name : {text bytes : List ℕ} {number : ℕ} → IsString text bytes → IsUtf8 bytes
    → IsName (kept_token number (bare kind.Name) text) bytes
string_name string utf8 = record { string = string; utf8 = utf8 }

-- ---- five of one letter, and one of three

abbrev pub a_word : Token
a_word = name_string (letter_string 97 (lit≤ tt) (lit≤ tt)) (letter_utf8 97 (lit≤ tt) (lit≤ tt))

pub a_is_name : {number : ℕ} → IsName (kept_token number (bare kind.Name) (codes "\"a\"")) (codes "a")
a_is_name = string_name (letter_string 97 (lit≤ tt) (lit≤ tt)) (letter_utf8 97 (lit≤ tt) (lit≤ tt))

abbrev pub b_word : Token
b_word = name_string (letter_string 98 (lit≤ tt) (lit≤ tt)) (letter_utf8 98 (lit≤ tt) (lit≤ tt))

pub b_is_name : {number : ℕ} → IsName (kept_token number (bare kind.Name) (codes "\"b\"")) (codes "b")
b_is_name = string_name (letter_string 98 (lit≤ tt) (lit≤ tt)) (letter_utf8 98 (lit≤ tt) (lit≤ tt))

abbrev pub f_word : Token
f_word = name_string (letter_string 102 (lit≤ tt) (lit≤ tt)) (letter_utf8 102 (lit≤ tt) (lit≤ tt))

pub f_is_name : {number : ℕ} → IsName (kept_token number (bare kind.Name) (codes "\"f\"")) (codes "f")
f_is_name = string_name (letter_string 102 (lit≤ tt) (lit≤ tt)) (letter_utf8 102 (lit≤ tt) (lit≤ tt))

abbrev pub m_word : Token
m_word = name_string (letter_string 109 (lit≤ tt) (lit≤ tt)) (letter_utf8 109 (lit≤ tt) (lit≤ tt))

pub m_is_name : {number : ℕ} → IsName (kept_token number (bare kind.Name) (codes "\"m\"")) (codes "m")
m_is_name = string_name (letter_string 109 (lit≤ tt) (lit≤ tt)) (letter_utf8 109 (lit≤ tt) (lit≤ tt))

abbrev pub n_word : Token
n_word = name_string (letter_string 110 (lit≤ tt) (lit≤ tt)) (letter_utf8 110 (lit≤ tt) (lit≤ tt))

pub n_is_name : {number : ℕ} → IsName (kept_token number (bare kind.Name) (codes "\"n\"")) (codes "n")
n_is_name = string_name (letter_string 110 (lit≤ tt) (lit≤ tt)) (letter_utf8 110 (lit≤ tt) (lit≤ tt))

pub inc_string : IsString (codes "\"inc\"") (codes "inc")
inc_string = record {
  body = codes "inc";
  text_is = refl;
  elements = Elements.more (Element.plain 105 (small_is_plain 105 (lit≤ tt) (lit≤ tt)))
      (Elements.more (Element.plain 110 (small_is_plain 110 (lit≤ tt) (lit≤ tt)))
      (Elements.more (Element.plain 99 (small_is_plain 99 (lit≤ tt) (lit≤ tt))) Elements.none));
}

pub inc_utf8 : IsUtf8 (codes "inc")
inc_utf8 = IsUtf8-from_ascii (codes "inc") (IsAscii-from_all (codes "inc")
    (All-from_recursion (λ b. b < 128) (codes "inc") (lit< tt, (lit< tt, (lit< tt, tt)))))

abbrev pub inc_word : Token
inc_word = name_string inc_string inc_utf8

pub inc_is_name : {number : ℕ} → IsName (kept_token number (bare kind.Name) (codes "\"inc\"")) (codes "inc")
inc_is_name = string_name inc_string inc_utf8

-- ---- bytes that are no text

pub not_utf8 : ¬ (IsUtf8 (0 ∷ 0xFF ∷ 0xC3 ∷ 0xA9 ∷ []))
unfolding chars is_utf8 lib.Utf8.encode
not_utf8 u = true≢false (sym (is_utf8-from_IsUtf8 (0 ∷ 0xFF ∷ 0xC3 ∷ 0xA9 ∷ []) u))

-- `"\00\ff\u{e9}"`: two bytes, and the two of a character
pub three_escapes : IsString (codes "\"\\00\\ff\\u{e9}\"") (0 ∷ 0xFF ∷ 0xC3 ∷ 0xA9 ∷ [])
unfolding digit_of lib.Utf8.encode
three_escapes = record {
  body = codes "\\00\\ff\\u{e9}";
  text_is = refl;
  elements = Elements.more (Element.byte 48 48 (lit< tt) (lit< tt))
      (Elements.more (Element.byte 102 102 (lit< tt) (lit< tt))
      (Elements.more (Element.unicode (Digits.more 57 (Digits.one 101 (lit< tt)) (lit< tt)) refl)
      Elements.none));
}

-- `"\00\ff\c3\a9"`: the same, byte by byte
pub four_bytes : IsString (codes "\"\\00\\ff\\c3\\a9\"") (0 ∷ 0xFF ∷ 0xC3 ∷ 0xA9 ∷ [])
unfolding digit_of
four_bytes = record {
  body = codes "\\00\\ff\\c3\\a9";
  text_is = refl;
  elements = Elements.more (Element.byte 48 48 (lit< tt) (lit< tt))
      (Elements.more (Element.byte 102 102 (lit< tt) (lit< tt))
      (Elements.more (Element.byte 99 51 (lit< tt) (lit< tt))
      (Elements.more (Element.byte 97 57 (lit< tt) (lit< tt)) Elements.none)));
}

-- a string of these bytes
abbrev bytes_string : {text : List ℕ} → IsString text (0 ∷ 0xFF ∷ 0xC3 ∷ 0xA9 ∷ []) → Token
bytes_string {text} string =
    record { form = token.Str; text = text; symbol = bare kind.Text; is = StringIs.no_name string not_utf8 }

abbrev pub escapes_word : Token
escapes_word = bytes_string three_escapes

abbrev pub bytes_word : Token
bytes_word = bytes_string four_bytes
