-- The kept tokens of a derivation, each in its role (Core 1.0, 6.3 to 6.5).
use Rattle.std.specs.Prelude.{List, [], ◌∷◌}
use Rattle.wc_tokens.specs.declared.token.TokenKind.{TokenKind}
use Rattle.wc_syntax.specs.declared.role.Role.{Role}
use Rattle.wc_syntax.specs.Standard.Phrases.{word}
use Rattle.wc_syntax.specs.Standard.Deriving.{at, Event, kept}
use Rattle.wc_symbols.specs.Standard.Tokens.{TokenIs}
use Rattle.wc_parse_code.specs.Standard.Tokens.{KeptToken}
use Rattle.wc_parse_code.specs.Standard.Productions.Tokens.{Said, ◌⊳◌}

-- the token is to the grammar what its text says
pub record IsSpoken (w : KeptToken) : Type 0 where
  pub form : TokenKind
  pub says : TokenIs form w.text w.symbol

-- the tokens that are kept are these, in these roles
pub data AreKept : List Event → List Said → Type 0 where
  none : AreKept [] []
  more : {r : Role} {w : KeptToken} {es : List Event} {us : List Said} → IsSpoken w → AreKept es us
      → AreKept (kept r (at w.token (word w.symbol.kind)) ∷ es) (r ⊳ w ∷ us)
