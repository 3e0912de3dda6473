-- What tokens say (Core 1.0, 6.3 to 6.6), as the code stores it.
use Rattle.std.specs.Prelude.{◌≡◌, List, map}
use Rattle.wc_tokens.specs.Standard.Lexemes.{Lexeme}
use Rattle.wc_surface.specs.declared.field.Field.{Field}
use Rattle.wc_surface.specs.Standard.Written.Fields.{Field as WrittenField}
use Rattle.wc_parse_field.specs.Stored.Fields.{field_as}
use Rattle.wc_parse.specs.Standard.Productions.{SaysFields}

-- `Syn ts fields`: the tokens are a text, and these are the fields that it says, as they are stored
pub record Syn (ts : List Lexeme) (fields : List Field) : Type 0 where
  pub written : List WrittenField
  pub says : SaysFields ts written
  pub stored : fields ≡ map field_as written
