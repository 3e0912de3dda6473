-- Tokens that are strings, and tokens that are none.
use Rattle.std.proofs.Common.{◌≡◌, ◌≢◌, refl, ℕ, List, []}
use Rattle.wc_tokens.specs.declared.token.TokenKind.{TokenKind}
use Rattle.wc_tokens.specs.declared.token.TokenKind.TheVariants as token
use Rattle.wc_tokens.specs.Standard.Strings.{IsString}
use Rattle.wc_symbols.specs.declared.symbol.Symbol.{Symbol}
use Rattle.wc_symbols.specs.Standard.Tokens.{StringIs, TokenIs}
use Rattle.wc_parse.specs.Kept.Folds.{StandsFor}

-- a string is to the grammar what it is by its bytes
pub string-token : (kind : TokenKind) (text : List ℕ) (s : Symbol) → kind ≡ token.Str → StringIs text s
    → TokenIs kind text s
string-token token.Open text s e h = absurd cc
string-token token.Close text s e h = absurd cc
string-token token.Id text s e h = absurd cc
string-token token.Word text s e h = absurd cc
string-token token.Str text s e h = h

pub string-stands : (kind : TokenKind) (text bytes : List ℕ) → kind ≡ token.Str → IsString text bytes
    → StandsFor kind text bytes
string-stands token.Open text bytes e h = absurd cc
string-stands token.Close text bytes e h = absurd cc
string-stands token.Id text bytes e h = absurd cc
string-stands token.Word text bytes e h = absurd cc
string-stands token.Str text bytes e h = h

-- any other token stands for no bytes
pub no-string-stands : (kind : TokenKind) (text : List ℕ) → kind ≢ token.Str → StandsFor kind text []
no-string-stands token.Open text f = refl
no-string-stands token.Close text f = refl
no-string-stands token.Id text f = refl
no-string-stands token.Word text f = refl
no-string-stands token.Str text f = absurd (f refl)
