-- Kept tokens of the examples, and the names and numbers among them.
use Rattle.std.proofs.Common.{ℕ, ◌<◌, List, [], ◌∷◌, refl, codes, arith, lit<, lit≤}
use Rattle.std.proofs.lemmas.Str.{IsUtf8-from_ascii}
use Rattle.std.proofs.lemmas.Str.Ascii.{IsAscii-from_all}
use Rattle.std.proofs.lemmas.List.Elements.{All-from_recursion}
use Rattle.wc_tokens.specs.Standard.Strings.{IsPlain, Element, Elements, IsString}
use Rattle.wc_syntax.specs.declared.kind.Kind.{Kind}
use Rattle.wc_syntax.specs.declared.kind.Kind.TheVariants as kind
use Rattle.wc_ops.specs.declared.val_type.ValType.TheVariants.{I32, I64}
use Rattle.wc_symbols.specs.declared.symbol.Value.TheVariants.{Number, ValType}
use Rattle.wc_symbols.specs.Standard.Symbols.{valued, bare}
use Rattle.wc_parse_code.specs.Standard.Tokens.{KeptToken, kept_token}
use Rattle.wc_parse_field.specs.Standard.Productions.Parts.{IsName}

-- a keyword, an identifier or a parenthesis, at the token of this number
abbrev pub keyword : Kind → List ℕ → ℕ → KeptToken
keyword k text token = kept_token token (bare k) text

-- ")"
abbrev pub close : ℕ → KeptToken
close token = keyword kind.Close (codes ")") token

-- an identifier
abbrev pub id_at : List ℕ → ℕ → KeptToken
id_at text token = keyword kind.Id text token

-- a natural number below 2^32, and how it is written
abbrev pub natural : ℕ → List ℕ → ℕ → KeptToken
natural n text token = kept_token token (valued kind.Natural32 (Number n)) text

-- "i32"
abbrev pub i32_at : ℕ → KeptToken
i32_at token = kept_token token (valued kind.ValType (ValType I32)) (codes "i32")

-- "i64"
abbrev pub i64_at : ℕ → KeptToken
i64_at token = kept_token token (valued kind.ValType (ValType I64)) (codes "i64")

-- a letter in quotes
abbrev pub letter : ℕ → ℕ → KeptToken
letter c token = keyword kind.Name (34 ∷ c ∷ 34 ∷ []) token

-- it stands for that letter
pub letter_string : (c : ℕ) → IsPlain c → IsString (34 ∷ c ∷ 34 ∷ []) (c ∷ [])
letter_string c p = record {
  body = c ∷ [];
  text_is = refl;
  elements = Elements.more (Element.plain c p) Elements.none;
}

-- so it is a name, where the letter is ASCII
pub letter_name : (c token : ℕ) → IsPlain c → c < 128 → IsName (letter c token) (c ∷ [])
letter_name c token p a = record {
  string = letter_string c p;
  utf8 = IsUtf8-from_ascii (c ∷ []) (IsAscii-from_all (c ∷ []) (All-from_recursion (λ b. b < 128) (c ∷ []) (a, tt)));
}

-- "a"
pub a_is_plain : IsPlain 97
a_is_plain = (lit≤ tt, omega arith, omega arith, omega arith)

-- `"a"` is a name
pub name_a : (token : ℕ) → IsName (letter 97 token) (codes "a")
name_a token = letter_name 97 token a_is_plain (lit< tt)

-- `"b"` is a name
pub name_b : (token : ℕ) → IsName (letter 98 token) (codes "b")
name_b token = letter_name 98 token (lit≤ tt, omega arith, omega arith, omega arith) (lit< tt)

-- `"m"` is a name
pub name_m : (token : ℕ) → IsName (letter 109 token) (codes "m")
name_m token = letter_name 109 token (lit≤ tt, omega arith, omega arith, omega arith) (lit< tt)

-- `"n"` is a name
pub name_n : (token : ℕ) → IsName (letter 110 token) (codes "n")
name_n token = letter_name 110 token (lit≤ tt, omega arith, omega arith, omega arith) (lit< tt)
