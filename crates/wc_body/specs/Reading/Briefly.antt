-- Brief entries (Core 1.0, 5.4): which bytes are theirs, by their opcode.
use Rattle.std.specs.Prelude.{ℕ, ◌≡◌, ◌<◌, ◌+◌, ◌==◌, false, List, Some, if◌then◌else◌}
use Rattle.wc_ops.specs.declared.op.Op.{Op}
use Rattle.wc_ops.specs.declared.op.Op.TheVariants as ops
use Rattle.wc_ops.specs.declared.op.OpByte.{OpByte}
use Rattle.wc_ops.specs.declared.op.OpByte.TheVariants.{Known, Float, Unknown}
use Rattle.wc_ops.specs.declared.op.SimpleOp.{SimpleOp}
use Rattle.wc_ops.specs.declared.op.SimpleOp.TheVariants.{MemorySize, MemoryGrow}
use Rattle.wc_ops.specs.Standard.Opcodes.{memory}
use Rattle.wc_ops.specs.Reading.OpcodeMeaning.{meaning}
use Rattle.wc_body.specs.declared.walks.brief.Brief.{Brief}
use Rattle.wc_body.specs.declared.walks.brief.Shape.{Shape}
use Rattle.wc_body.specs.declared.walks.brief.TheConstants.{OTHER, BARE, ONE, BEGIN, ACCESS_8}
use Rattle.wc_body.specs.declared.entry.Entry.{Entry}
use Rattle.wc_body.specs.Standard.Walks.Brief.{brief_entry, has_integer}
use Rattle.wc_body.specs.Reading.Fronts.{entry_front}

-- no immediate, or the byte that the standard keeps for later
abbrev pub simple_shape : SimpleOp → Shape
simple_shape MemorySize = OTHER
simple_shape MemoryGrow = OTHER
simple_shape _ = BARE

-- what the brief entries of an instruction are like
abbrev pub op_shape : Op → Shape
op_shape (ops.Simple op) = simple_shape op
op_shape (ops.Index op) = ONE
op_shape (ops.Mem op) = record ACCESS_8 { least = (memory op).alignment; second = (memory op).alignment + 1 }
op_shape ops.I32Const = ONE
op_shape ops.I64Const = ONE
op_shape ops.Block = BEGIN
op_shape ops.Loop = BEGIN
op_shape ops.If = BEGIN
op_shape ops.BrTable = OTHER
op_shape ops.CallIndirect = OTHER

-- the same by what the opcode means
abbrev pub meant_shape : OpByte → ℕ → Shape
meant_shape (Known op) b = op_shape op
meant_shape Float b = OTHER
meant_shape Unknown b = if b == 0x05 then BARE else (if b == 0x0B then BARE else OTHER)

-- what the brief entries of this opcode are like
unfoldable pub shape_at : ℕ → Shape
shape_at b = meant_shape (meaning b) b

-- the bytes begin with the entry that is said, and these follow it
pub record BeginsWith (brief : Brief) (x rest : List ℕ) : Type 0 where
  pub entry : Entry
  pub said : brief_entry brief ≡ Some entry
  pub front : entry_front x ≡ Some (entry, rest)
  pub low : brief.operand < 128
  pub bare : has_integer entry ≡ false → brief.operand ≡ 0
