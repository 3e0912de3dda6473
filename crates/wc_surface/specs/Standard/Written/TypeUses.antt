-- Function types and type uses (Core 1.0, 6.4.3 and 6.6.3).
use Rattle.std.specs.Prelude.{List, Option}
use Rattle.wc_ops.specs.declared.val_type.ValType.{ValType}
use Rattle.wc_surface.specs.Standard.Identifiers.{Identifier}
use Rattle.wc_surface.specs.Standard.Written.Indices.{Index}

-- a parameter: its identifier, where it has one, and its type
pub record Param : Type 0 where
  pub id : Option Identifier
  pub ty : ValType

-- the parameters and the results that are written
pub record Signature : Type 0 where
  pub params : List Param
  pub results : List ValType

-- typeuse: the index behind `type`, where it is written, and the parameters and results that are. Its place in the
-- text is that of the word that it is of.
pub record TypeUse : Type 0 where
  pub index : Option Index
  pub signature : Signature
