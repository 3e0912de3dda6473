-- What tokens say, by the productions that their kept ones follow (Core 1.0, 6.3 to 6.6).
use Rattle.std.specs.Prelude.{◌≡◌, List, ◌∷◌, drop}
use Rattle.wc_tokens.specs.Standard.Lexemes.{Lexeme}
use Rattle.wc_body.specs.Standard.Nested.{nesting_limit}
use Rattle.wc_syntax.specs.declared.kind.Kind.{Kind}
use Rattle.wc_syntax.specs.declared.role.Role.{Role}
use Rattle.wc_syntax.specs.Standard.Phrases.{word}
use Rattle.wc_syntax.specs.Standard.Deriving.{at, Event, kept}
use Rattle.wc_syntax.specs.Standard.Parsing.{IsText}
use Rattle.wc_symbols.specs.Standard.Tokens.{TokenIs}
use Rattle.wc_surface.specs.Standard.Written.Fields.{Field}
use Rattle.wc_parse_code.specs.Standard.Tokens.{KeptToken}
use Rattle.wc_parse_code.specs.Standard.Productions.Tokens.{Said, ◌⊳◌}
use Rattle.wc_parse_field.specs.Standard.Productions.Fields.{AreFields}
use Rattle.wc_parse.specs.Standard.Kinds.{Each, HasKind}

-- the token that is kept, in its role: the one of its number in the text, which says this to the grammar
pub data IsKept (ts : List Lexeme) : Event → Said → Type 0 where
  stands : {r : Role} {w : KeptToken} {t : Lexeme} {rest : List Lexeme} → drop w.token ts ≡ t ∷ rest
      → TokenIs t.kind t.text w.symbol → w.text ≡ t.text
      → IsKept ts (kept r (at w.token (word w.symbol.kind))) (r ⊳ w)

-- `SaysFields ts fields`: the tokens are a text, whose kept tokens say these fields
pub record SaysFields (ts : List Lexeme) (fields : List Field) : Type 0 where
  pub kinds : List Kind
  pub are_kinds : Each HasKind ts kinds
  pub es : List Event
  pub text : IsText nesting_limit kinds es
  pub words : List Said
  pub are_kept : Each (IsKept ts) es words
  pub says : AreFields words fields
