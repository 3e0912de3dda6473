-- Each token is some symbol.
use Rattle.std.proofs.Common.{◌≡◌, ℕ, List, drop, refl, sym, inl, inr}
use Rattle.std.specs.List.{AllByRecursion}
use Rattle.std.specs.Str.{is_utf8}
use Rattle.std.proofs.lemmas.Bool.{cases_Bool}
use Rattle.std.proofs.lemmas.Str.{IsUtf8-from_is_utf8, is_utf8-from_IsUtf8}
use Rattle.wc_tokens.specs.declared.token.TokenKind.{TokenKind}
use Rattle.wc_tokens.specs.declared.token.TokenKind.TheVariants as token_kind
use Rattle.wc_tokens.specs.Standard.Strings.{IsString}
use Rattle.wc_tokens.specs.Standard.Lexemes.{Lexeme, HasForm, Lexed, ended, gap, token, Lexes}
use Rattle.wc_syntax.specs.declared.kind.Kind.TheVariants as kind
use Rattle.wc_symbols.specs.declared.symbol.Symbol.{Symbol}
use Rattle.wc_symbols.specs.declared.shape.Shape.{Shape}
use Rattle.wc_symbols.specs.declared.shape.Shape.TheVariants as shape
use Rattle.wc_symbols.specs.Standard.Symbols.{bare}
use Rattle.wc_symbols.specs.Reading.Shapes.{shape_of}
use Rattle.wc_symbols.specs.Standard.Words.{WordIs}
use Rattle.wc_symbols.specs.Standard.Tokens.{StringIs, name, no_name, TokenIs}
use Rattle.wc_symbols.proofs.Spelling.WordLemmas.{word-is, offset-begins, align-begins}
use Rattle.wc_symbols.proofs.SomeValue.SomeNumbers.{some-natural, some-signed, some-offset, some-align}
use Rattle.wc_symbols.proofs.SomeValue.SomeNames.{some-name}

some-word : (text : List ℕ) → (s : Symbol) × WordIs text s
some-word text = go (shape_of text) refl
  where
    go : (x : Shape) → x ≡ shape_of text → (s : Symbol) × WordIs text s
    go shape.Natural e = let w = some-natural text in (w.0, word-is text text shape.Natural w.0 e refl w.1)
    go shape.Plus e = let w = some-signed text in (w.0, word-is text text shape.Plus w.0 e refl w.1)
    go shape.Minus e = let w = some-signed text in (w.0, word-is text text shape.Minus w.0 e refl w.1)
    go shape.Offset e =
        let w = some-offset (drop 7 text) in
        (w.0, word-is text text shape.Offset w.0 e refl (inl (drop 7 text, offset-begins text (sym e), w.1)))
    go shape.Align e =
        let w = some-align (drop 6 text) in
        (w.0, word-is text text shape.Align w.0 e refl (inl (drop 6 text, align-begins text (sym e), w.1)))
    go shape.Name e = let w = some-name text in (w.0, word-is text text shape.Name w.0 e refl w.1)

some-string : (text bytes : List ℕ) → IsString text bytes → (s : Symbol) × StringIs text s
some-string text bytes i = elim (cases_Bool (is_utf8 bytes)) [
  | inl e ↦ (bare kind.Name, name i (IsUtf8-from_is_utf8 bytes e))
  | inr e ↦ (bare kind.Text, no_name i (λ u. let f = is_utf8-from_IsUtf8 bytes u in absurd (cc (e, f))))
]

pub some-symbol : (k : TokenKind) (text : List ℕ) → HasForm k text → (s : Symbol) × TokenIs k text s
some-symbol token_kind.Open text h = (bare kind.Open, refl)
some-symbol token_kind.Close text h = (bare kind.Close, refl)
some-symbol token_kind.Id text h = (bare kind.Id, refl)
some-symbol token_kind.Str text h = some-string text h.0 h.1
some-symbol token_kind.Word text h = some-word text

abbrev Some : Lexeme → Type 0
Some t = (s : Symbol) × TokenIs t.kind t.text s

some-lexed : {size : ℕ} {text : List ℕ} {ts : List Lexeme} → Lexed size text ts → AllByRecursion Some ts
some-lexed ended = tt
some-lexed (gap g l) = some-lexed l
some-lexed (token {kind = k} {text = text} t l) = (some-symbol k text t.form, some-lexed l)

pub some-lexes : (text : List ℕ) (ts : List Lexeme) → Lexes text ts → AllByRecursion Some ts
some-lexes text ts l = some-lexed l.lexed
