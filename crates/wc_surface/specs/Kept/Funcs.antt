-- Functions as fields hold them.
use Rattle.std.specs.Prelude.{ℕ, List, [], Option, None, Some, if◌then◌else◌}
use Rattle.wc_ast.specs.declared.func_type.FuncType.{FuncType}
use Rattle.wc_body.specs.Standard.Nested.{Code}
use Rattle.wc_surface.specs.declared.instr.TextInstr.{TextInstr}
use Rattle.wc_surface.specs.declared.id.Index.{Index}
use Rattle.wc_surface.specs.declared.id.Index.TheVariants.{Number}
use Rattle.wc_surface.specs.declared.local.Local.{Local}
use Rattle.wc_surface.specs.declared.type_use.TypeUse.{TypeUse}
use Rattle.wc_surface.specs.declared.head.TextBody.{TextBody}
use Rattle.wc_surface.specs.declared.field.ImportNames.{ImportNames}
use Rattle.wc_surface.specs.declared.field.FuncField.{FuncField}
use Rattle.wc_surface.specs.declared.field.FuncDesc.{FuncDesc}
use Rattle.wc_surface.specs.declared.field.FuncDesc.TheVariants as desc
use Rattle.wc_surface.specs.declared.func_parts.FuncParts.{FuncParts}
use Rattle.wc_surface.specs.declared.kept_func.FuncWord.{FuncWord}
use Rattle.wc_surface.specs.declared.kept_func.FuncSeen.{FuncSeen}
use Rattle.wc_surface.specs.declared.kept_func.FuncSeen.TheVariants as seen
use Rattle.wc_surface.specs.Kept.Uses.{use_with}
use Rattle.wc_surface.specs.Kept.Bodies.{plain_body}

-- the type behind `type`: a number stands with the word
abbrev pub index_with : FuncWord → Option Index → Option Index
index_with word other = if word.numbered then Some (Number word.index_token word.index) else other

-- how the function is given
abbrev pub desc_with : Option ImportNames → List Local → TextBody → FuncDesc
desc_with None locals body = desc.Code locals body
desc_with (Some names) locals body = desc.Import names

-- the function of what each has and of what few have
abbrev pub func_with : FuncWord → FuncType → TextBody → FuncParts → FuncField
func_with word signature body parts = record {
  id = parts.id;
  exports = parts.exports;
  ty = use_with word.user word.token (index_with word parts.index) signature parts.names;
  desc = desc_with parts.import parts.locals body;
}

-- the type use in which no parameter has an identifier, and the type behind `type` is no identifier
abbrev pub plain_use : FuncWord → FuncType → TypeUse
plain_use word signature = use_with word.user word.token (index_with word None) signature []

-- the function of these instructions and such a type use alone
abbrev pub plain_func : FuncWord → FuncType → Code TextInstr ℕ → FuncField
plain_func word signature code = record {
  id = None;
  exports = [];
  ty = plain_use word signature;
  desc = desc.Code [] (plain_body code);
}

-- how a function is given, where it is seen
abbrev pub described : FuncSeen → FuncDesc
described (seen.Import names) = desc.Import names.now
described (seen.Code locals body) = desc.Code locals body.now
