-- What kept tokens give, one after the other.
use Rattle.std.specs.Prelude.{◌≡◌, ℕ, List, [], ◌∷◌, drop}
use Rattle.wc_tokens.specs.declared.token.TokenKind.{TokenKind}
use Rattle.wc_tokens.specs.declared.token.TokenKind.TheVariants as token
use Rattle.wc_tokens.specs.Standard.Lexemes.{Lexeme}
use Rattle.wc_tokens.specs.Standard.Strings.{IsString}
use Rattle.wc_body.specs.Standard.Nested.{nesting_limit}
use Rattle.wc_syntax.specs.declared.kind.Kind.{Kind}
use Rattle.wc_syntax.specs.Standard.Phrases.{word}
use Rattle.wc_syntax.specs.Standard.Deriving.{at, Event, kept}
use Rattle.wc_syntax.specs.Standard.Parsing.{IsText}
use Rattle.wc_symbols.specs.Standard.Tokens.{TokenIs}
use Rattle.wc_surface.specs.declared.field.Field.{Field}
use Rattle.wc_parse.specs.Standard.Kinds.{Each, HasKind}
use Rattle.wc_parse.specs.Kept.Texts.{Item, said}

-- what a string stands for; nothing, where it is no string
abbrev pub StandsFor : TokenKind → List ℕ → List ℕ → Type 0
StandsFor token.Str text bytes = IsString text bytes
StandsFor _ text bytes = bytes ≡ []

-- the token that is kept, with all that it says: the one of its number in the text
pub record IsItem (ts : List Lexeme) (e : Event) (i : Item) : Type 0 where
  pub lexeme : Lexeme
  pub rest : List Lexeme
  pub stands : drop i.word.token ts ≡ lexeme ∷ rest
  pub event : e ≡ kept i.role (at i.word.token (word i.word.symbol.kind))
  pub symbol : TokenIs lexeme.kind lexeme.text i.word.symbol
  pub text : i.word.text ≡ lexeme.text
  pub bytes : StandsFor lexeme.kind lexeme.text i.bytes

-- `Folds ts fields`: the tokens are a text, whose kept tokens, one after the other, give these fields
pub record Folds (ts : List Lexeme) (fields : List Field) : Type 0 where
  pub kinds : List Kind
  pub are_kinds : Each HasKind ts kinds
  pub es : List Event
  pub text : IsText nesting_limit kinds es
  pub items : List Item
  pub are_items : Each (IsItem ts) es items
  pub gives : fields ≡ said items
