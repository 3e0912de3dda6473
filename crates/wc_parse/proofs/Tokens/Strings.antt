-- What strings stand for.
use Rattle.std.proofs.Common.{ℕ, suc, ◌≤◌, List, [], ◌∷◌, length, refl, arith}
use Rattle.std.proofs.Common.{length-append}
use Rattle.std.specs.Prelude.{encode_utf8}
use Rattle.std.proofs.lemmas.Str.{length-encode, len_utf8_bounds}
use Rattle.wc_tokens.specs.declared.token.TokenKind.{TokenKind}
use Rattle.wc_tokens.specs.declared.token.TokenKind.TheVariants as token
use Rattle.wc_tokens.specs.Standard.Strings.{Element, plain, escape, byte, unicode, Elements, none, more, IsString}
use Rattle.wc_tokens.specs.Standard.Lexemes.{HasForm}
use Rattle.wc_symbols.specs.declared.symbol.Symbol.{Symbol}
use Rattle.wc_symbols.specs.Standard.Tokens.{TokenIs, StringIs, name, no_name}
use Rattle.wc_parse.specs.Kept.Folds.{StandsFor}
use Rattle.wc_parse.proofs.Tokens.Forms.{some-text}

-- a token that is something to the grammar stands for something
some-bytes : {text : List ℕ} {s : Symbol} → StringIs text s → (bytes : List ℕ) × IsString text bytes
some-bytes (name {bytes = bytes} i u) = (bytes, i)
some-bytes (no_name {bytes = bytes} i u) = (bytes, i)

pub some-meaning : (k : TokenKind) (text : List ℕ) (s : Symbol) → TokenIs k text s
    → (bytes : List ℕ) × StandsFor k text bytes
some-meaning token.Str text s t = some-bytes t
some-meaning token.Open text s t = ([], refl)
some-meaning token.Close text s t = ([], refl)
some-meaning token.Id text s t = ([], refl)
some-meaning token.Word text s t = ([], refl)

encoded-short : (n : ℕ) → length (encode_utf8 n) ≤ 4
encoded-short n = rw (length-encode n) (len_utf8_bounds n).1

element-short : {part value : List ℕ} → Element part value → length value ≤ length part
element-short (plain c p) = omega arith
element-short (escape c v) = omega arith
element-short (byte h l p q) = omega arith
element-short (unicode {digits = digits} {n = n} d p) = omega (arith, encoded-short n, length-append digits (125 ∷ []))

elements-short : {body bytes : List ℕ} → Elements body bytes → length bytes ≤ length body
elements-short none = omega arith
elements-short (more {part = part} {rest = rest} {value = value} {values = values} f fs) =
    omega (arith, element-short f, elements-short fs, length-append part rest, length-append value values)

string-short : {text bytes : List ℕ} → IsString text bytes → suc (length bytes) ≤ length text
string-short {text} {bytes} i = rw i.text_is (omega (arith, elements-short i.elements, length-append i.body (34 ∷ [])))

pub stands-short : (k : TokenKind) (text bytes : List ℕ) → HasForm k text → StandsFor k text bytes
    → suc (length bytes) ≤ length text
stands-short token.Str text bytes h s = string-short s
stands-short token.Open text bytes h s = rw s (some-text token.Open text h)
stands-short token.Close text bytes h s = rw s (some-text token.Close text h)
stands-short token.Id text bytes h s = rw s (some-text token.Id text h)
stands-short token.Word text bytes h s = rw s (some-text token.Word text h)
