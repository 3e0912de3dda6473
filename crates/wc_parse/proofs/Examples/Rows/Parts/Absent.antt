-- What is not written, by the productions.
use Rattle.std.proofs.Common.{[], None}
use Rattle.wc_surface.specs.Standard.Written.Instructions.{short}
use Rattle.wc_surface.specs.Standard.Written.Fields.{Declared}
use Rattle.wc_parse_code.specs.Standard.Productions.Tokens.{IsId}
use Rattle.wc_parse_code.specs.Standard.Productions.TypeUses.{AreParams, AreResults, signature, IsSignature, type_use}
use Rattle.wc_parse_code.specs.Standard.Productions.TypeUses.{IsTypeUse, IsBlockType}
use Rattle.wc_parse_code.specs.Standard.Productions.Instructions.{IsHead}
use Rattle.wc_parse_field.specs.Standard.Productions.Parts.{AreExports, IsDeclared}

-- neither an identifier nor an export
abbrev pub undeclared : Declared
undeclared = record { id = None; exports = [] }

pub plainly : IsDeclared [] undeclared
plainly = IsDeclared.both IsId.absent AreExports.none

-- neither a parameter nor a result
pub no_signature : IsSignature [] (signature [] [])
no_signature = IsSignature.both AreParams.none AreResults.none

-- no type use
pub no_type_use : IsTypeUse [] (type_use None (signature [] []))
no_type_use = IsTypeUse.inline no_signature

-- neither a label nor a block type
pub bare_head : IsHead [] None (short None)
bare_head = IsHead.both IsId.absent (IsBlockType.no_type no_type_use)
