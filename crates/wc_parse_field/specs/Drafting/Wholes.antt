-- Fields by their parts (Core 1.0, 6.6.4 and 6.6.9).
use Rattle.std.specs.Prelude.{ℕ, List, [], Option, Some}
use Rattle.wc_ast.specs.declared.export.ExportKind.TheVariants as export
use Rattle.wc_syntax.specs.declared.kind.Kind.{Kind}
use Rattle.wc_surface.specs.declared.field.ExportField.{ExportField}
use Rattle.wc_surface.specs.declared.field.ImportField.{ImportField}
use Rattle.wc_surface.specs.declared.field.ImportDesc.TheVariants as import
use Rattle.wc_surface.specs.declared.type_use.User.TheVariants as user
use Rattle.wc_surface.specs.declared.type_use.TypeUse.{TypeUse}
use Rattle.wc_surface.specs.Standard.Identifiers.{Identifier}
use Rattle.wc_surface.specs.Standard.Keys.{func_type}
use Rattle.wc_parse_code.specs.declared.word.Word.{Word}
use Rattle.wc_parse_code.specs.Drafting.Words.{index_of}
use Rattle.wc_parse_field.specs.Drafting.Fields.{name_of, described}

-- an export of this name: what the word says, of the kind that the other word says
abbrev pub exported : List ℕ → Kind → Word → ExportField
exported name k w = record { name = name_of name; kind = described k export.Func; index = index_of w }

-- the type use of a function that only names its type, by the number of the function's word
abbrev pub type_named : ℕ → Word → TypeUse
type_named token w = record {
  user = user.Func;
  token = token;
  index = Some (index_of w);
  signature = func_type [] [];
  names = [];
}

-- an import of a function, by the number of its word, with the names that it asks for and the word of its type
abbrev pub func_imported : ℕ → List ℕ → List ℕ → Option Identifier → Word → ImportField
func_imported token «module» item id w = record {
  names = record { token = token; «module» = name_of «module»; item = name_of item };
  id = id;
  desc = import.Func (type_named token w);
}
