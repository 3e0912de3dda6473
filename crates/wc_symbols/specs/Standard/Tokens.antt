-- What each token is to the grammar (Core 1.0, 6.3).
use Rattle.std.specs.Prelude.{◌≡◌, ℕ, List, IsUtf8}
use Rattle.wc_tokens.specs.declared.token.TokenKind.{TokenKind}
use Rattle.wc_tokens.specs.declared.token.TokenKind.TheVariants as token
use Rattle.wc_tokens.specs.Standard.Strings.{IsString}
use Rattle.wc_syntax.specs.declared.kind.Kind.TheVariants as kind
use Rattle.wc_symbols.specs.declared.symbol.Symbol.{Symbol}
use Rattle.wc_symbols.specs.Standard.Symbols.{bare}
use Rattle.wc_symbols.specs.Standard.Words.{WordIs}

-- a string is a name where its bytes are UTF-8 (6.3.3 and 6.3.4)
pub data StringIs : List ℕ → Symbol → Type 0 where
  name : {text bytes : List ℕ} → IsString text bytes → IsUtf8 bytes → StringIs text (bare kind.Name)
  no_name : {text bytes : List ℕ} → IsString text bytes → ¬ (IsUtf8 bytes) → StringIs text (bare kind.Text)

-- what a token of this form is
abbrev pub TokenIs : TokenKind → List ℕ → Symbol → Type 0
TokenIs token.Open text s = s ≡ bare kind.Open
TokenIs token.Close text s = s ≡ bare kind.Close
TokenIs token.Id text s = s ≡ bare kind.Id
TokenIs token.Str text s = StringIs text s
TokenIs token.Word text s = WordIs text s
