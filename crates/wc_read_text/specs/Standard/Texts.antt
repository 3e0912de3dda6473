-- The texts of a module (Core 1.0, chapter 6).
use Rattle.std.specs.Prelude.{ℕ, List}
use Rattle.wc_ast.specs.declared.module.Module.{Module}
use Rattle.wc_tokens.specs.Standard.Lexemes.{Lexeme, Lexes}
use Rattle.wc_surface.specs.Standard.Written.Fields.{Field}
use Rattle.wc_parse.specs.Standard.Productions.{SaysFields}
use Rattle.wc_meaning.specs.Standard.Denoted.{Means}

-- the text has tokens (6.3), which say fields (6.4 to 6.6), which denote the module (6.6.13)
pub record Txt (text : List ℕ) (m : Module) : Type 0 where
  pub tokens : List Lexeme
  pub fields : List Field
  pub lexes : Lexes text tokens
  pub says : SaysFields tokens fields
  pub means : Means fields m
