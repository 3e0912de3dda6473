-- Instructions of one integer (Core 1.0, 5.4), by their opcode and that integer: an index or a constant.
use Rattle.std.specs.Prelude.{◌≡◌, ℤ, pos, negsuc, List, ◌∷◌, Option, Some, None}
use Rattle.wc_ops.specs.declared.op.Op.{Op}
use Rattle.wc_ops.specs.declared.op.Op.TheVariants as ops
use Rattle.wc_ops.specs.declared.op.OpByte.{OpByte}
use Rattle.wc_ops.specs.declared.op.OpByte.TheVariants.{Known}
use Rattle.wc_ops.specs.declared.op.IndexOp.{IndexOp}
use Rattle.wc_ops.specs.Reading.OpcodeMeaning.{meaning}
use Rattle.wc_body.specs.declared.walks.numbered.Numbered.{Numbered}
use Rattle.wc_body.specs.declared.instr.Instr.{Instr}
use Rattle.wc_body.specs.declared.instr.Instr.TheVariants as instrs
use Rattle.wc_body.specs.declared.instr.BlockType.{BlockType}
use Rattle.wc_body.specs.Standard.Nested.{Mark, plain}

-- an index isn't negative
abbrev pub index_instr : IndexOp → ℤ → Option Instr
index_instr op (pos n) = Some (instrs.Index op n)
index_instr op (negsuc n) = None

-- the instruction of this integer
abbrev pub op_instr : Op → ℤ → Option Instr
op_instr (ops.Index op) z = index_instr op z
op_instr ops.I32Const z = Some (instrs.I32Const z)
op_instr ops.I64Const z = Some (instrs.I64Const z)
op_instr _ z = None

-- the same by what the opcode means
abbrev pub meant_instr : OpByte → ℤ → Option Instr
meant_instr (Known op) z = op_instr op z
meant_instr _ z = None

-- the instruction of this opcode
abbrev pub numbered : Numbered → Option Instr
numbered it = meant_instr (meaning it.opcode) it.number

-- the first of the old marks is said so, and the new ones are behind it
pub record SaysNumbered (it : Numbered) (old new : List (Mark Instr BlockType)) : Type 0 where
  pub instr : Instr
  pub said : numbered it ≡ Some instr
  pub first : old ≡ plain instr ∷ new
