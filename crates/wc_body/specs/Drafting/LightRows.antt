-- Light entries, those whose integers have one byte each and that need no outer label and no wider alignment (Core 1.0,
-- 5.4): what they are like by their opcode, and what is noted of one.
use Rattle.std.specs.Prelude.{◌≡◌, ◌⊎◌, ℕ, ◌+◌, max, min, ◌||◌}
use Rattle.wc_ops.specs.declared.op.Op.{Op}
use Rattle.wc_ops.specs.declared.op.Op.TheVariants as ops
use Rattle.wc_ops.specs.declared.op.OpByte.{OpByte}
use Rattle.wc_ops.specs.declared.op.OpByte.TheVariants.{Known}
use Rattle.wc_ops.specs.declared.op.SimpleOp.{SimpleOp}
use Rattle.wc_ops.specs.declared.op.SimpleOp.TheVariants.{MemorySize, MemoryGrow}
use Rattle.wc_ops.specs.declared.op.IndexOp.{IndexOp}
use Rattle.wc_ops.specs.declared.op.IndexOp.TheVariants.{Br, BrIf, Call, LocalGet, LocalSet, LocalTee, GlobalGet}
use Rattle.wc_ops.specs.declared.op.IndexOp.TheVariants.{GlobalSet}
use Rattle.wc_ops.specs.Standard.Opcodes.{row, memory}
use Rattle.wc_ops.specs.Reading.OpcodeMeaning.{meaning}
use Rattle.wc_body.specs.declared.runs.light.Light.{Light}
use Rattle.wc_body.specs.declared.runs.light.LightNeeds.{LightNeeds}
use Rattle.wc_body.specs.declared.runs.light.TheConstants.{OTHER, BARE, CONSTANT, LOCAL, LABEL, OUTER, ACCESS_8}
use Rattle.wc_body.specs.declared.needs.Needs.{Needs}
use Rattle.wc_body.specs.Standard.Needed.{with_index}

-- no immediate, or the byte that the standard keeps for later
abbrev pub simple_light : SimpleOp → Light
simple_light MemorySize = OTHER
simple_light MemoryGrow = OTHER
simple_light _ = BARE

-- an index: a label, a local, a function or a global
abbrev pub index_light : IndexOp → Light
index_light Br = LABEL
index_light BrIf = LABEL
index_light LocalGet = LOCAL
index_light LocalSet = LOCAL
index_light LocalTee = LOCAL
index_light _ = OUTER

-- what the light entries of an instruction are like
abbrev pub op_light : Op → Light
op_light (ops.Simple op) = simple_light op
op_light (ops.Index op) = index_light op
op_light (ops.Mem op) = record ACCESS_8 { second = (memory op).alignment + 1 }
op_light ops.I32Const = CONSTANT
op_light ops.I64Const = CONSTANT
op_light _ = OTHER

-- the same by what the opcode means
abbrev pub meant_light : OpByte → Light
meant_light (Known op) = op_light op
meant_light _ = OTHER

-- what the light entries of this opcode are like
unfoldable pub light_at : ℕ → Light
light_at b = meant_light (meaning b)

-- what one needs more, behind whose opcode this byte stands
abbrev pub with_light : Needs → Light → ℕ → Needs
with_light s r b = record s { locals = max s.locals (min (b + 1) r.locals); memory = s.memory || r.memory }

-- these needs, with what was noted apart from them
abbrev pub with_noted : LightNeeds → Needs → Needs
with_noted n s = record s { locals = n.locals; memory = n.memory }

-- the index isn't one of the function's own
abbrev pub IsOuter : IndexOp → Type 0
IsOuter Call = Unit {0}
IsOuter GlobalGet = Unit {0}
IsOuter GlobalSet = Unit {0}
IsOuter _ = ⊥

-- the opcode is of such an index
abbrev pub IsOuterAt : ℕ → Type 0
IsOuterAt a = (op : IndexOp) × IsOuter op × ((row (ops.Index op)).byte ≡ a)

-- it was noted what such an instruction of this opcode and this index needs, if it is one
abbrev pub NotesOuter : ℕ → ℕ → Needs → Needs → Type 0
NotesOuter a n s t =
    (op : IndexOp) → IsOuter op → (row (ops.Index op)).byte ≡ a → (k : ℕ) → t ≡ with_index s k op n

-- the opcode is a constant's
abbrev pub IsConstantAt : ℕ → Type 0
IsConstantAt a = (a ≡ 0x41) ⊎ (a ≡ 0x42)
