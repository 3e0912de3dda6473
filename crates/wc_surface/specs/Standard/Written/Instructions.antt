-- Instructions (Core 1.0, 6.5; Core 2.0, 6.5, for block types): folded ones as the unfolded ones that they mean.
use Rattle.std.specs.Prelude.{ℕ, List, Option}
use Rattle.wc_ops.specs.declared.op.SimpleOp.{SimpleOp}
use Rattle.wc_ops.specs.declared.op.IndexOp.{IndexOp}
use Rattle.wc_ops.specs.declared.op.MemOp.{MemOp}
use Rattle.wc_ops.specs.declared.val_type.ValType.{ValType}
use Rattle.wc_body.specs.Standard.Nested.{Code}
use Rattle.wc_surface.specs.Standard.Identifiers.{Identifier}
use Rattle.wc_surface.specs.Standard.Written.Indices.{Index}
use Rattle.wc_surface.specs.Standard.Written.TypeUses.{TypeUse}

-- memarg: the offset, and the exponent of the alignment, where they are written (6.5.5)
pub record MemArg : Type 0 where
  pub offset : Option ℕ
  pub align : Option ℕ

-- An instruction in which none is nested, with its immediates: the labels of a `br_table`, and its default; the number
-- of the word `call_indirect`, and its type use; the bits of a constant, as a number (6.5.2 to 6.5.6).
pub data Plain : Type 0 where
  simple : SimpleOp → Plain
  indexed : IndexOp → Index → Plain
  br_table : (labels : List Index) (default : Index) → Plain
  call_indirect : (token : ℕ) → TypeUse → Plain
  access : MemOp → MemArg → Plain
  i32_const : (bits : ℕ) → Plain
  i64_const : (bits : ℕ) → Plain

-- blocktype: no type or one, which is no type use; or a type use (Core 2.0, 6.5.2)
pub data BlockType : Type 0 where
  short : Option ValType → BlockType
  use_of : TypeUse → BlockType

-- What is written at a block, a loop or an if: the number of its word, the identifier of its label, its type, and the
-- identifiers behind `else` and `end` (6.5.2).
pub record Head : Type 0 where
  pub token : ℕ
  pub label : Option Identifier
  pub ty : BlockType
  pub else_id : Option Identifier
  pub end_id : Option Identifier

-- instructions in order, each with those nested in it; an if has two lists of them
abbrev pub Instrs : Type 0
Instrs = Code Plain Head
