-- Entries whose integers have one byte each, whose alignment is the natural one and whose block type is the empty one
-- (Core 1.0, 5.4), by their opcode and that integer: an index, the byte of a constant, or an offset.
use Rattle.std.specs.Prelude.{ℕ, ◌≡◌, ◌<◌, ◌==◌, nat_lt, Bool, true, false, ℤ, pos, ◌-ℤ◌, List, ◌∷◌, Option, Some, None}
use Rattle.std.specs.Prelude.{if◌then◌else◌}
use Rattle.wc_ops.specs.declared.op.Op.{Op}
use Rattle.wc_ops.specs.declared.op.Op.TheVariants as ops
use Rattle.wc_ops.specs.declared.op.OpByte.{OpByte}
use Rattle.wc_ops.specs.declared.op.OpByte.TheVariants.{Known, Float, Unknown}
use Rattle.wc_ops.specs.Standard.Opcodes.{memory}
use Rattle.wc_ops.specs.Reading.OpcodeMeaning.{meaning}
use Rattle.wc_body.specs.declared.walks.brief.Brief.{Brief}
use Rattle.wc_body.specs.declared.instr.Instr.{Instr}
use Rattle.wc_body.specs.declared.instr.Instr.TheVariants as instrs
use Rattle.wc_body.specs.declared.instr.BlockType.{BlockType}
use Rattle.wc_body.specs.declared.instr.BlockType.TheVariants.{Empty}
use Rattle.wc_body.specs.declared.entry.Kind.TheVariants.{Block, Loop, If}
use Rattle.wc_body.specs.declared.entry.Entry.{Entry}
use Rattle.wc_body.specs.declared.entry.Entry.TheVariants.{Plain, Begin, Else, End}
use Rattle.wc_body.specs.Standard.Nested.{Mark}
use Rattle.wc_body.specs.Standard.Entries.{mark}

-- the signed integer that a byte below 128 spells (5.2.2)
abbrev pub signed_byte : ℕ → ℤ
signed_byte b = if nat_lt b 64 then pos b else pos b -ℤ pos 128

-- the entry of this instruction
abbrev pub op_entry : Op → ℕ → Option Entry
op_entry (ops.Simple op) n = Some (Plain (instrs.Simple op))
op_entry (ops.Index op) n = Some (Plain (instrs.Index op n))
op_entry (ops.Mem op) n = Some (Plain (instrs.Mem op (record { align = (memory op).alignment; offset = n })))
op_entry ops.I32Const n = Some (Plain (instrs.I32Const (signed_byte n)))
op_entry ops.I64Const n = Some (Plain (instrs.I64Const (signed_byte n)))
op_entry ops.Block n = Some (Begin Block Empty)
op_entry ops.Loop n = Some (Begin Loop Empty)
op_entry ops.If n = Some (Begin If Empty)
op_entry ops.BrTable n = None
op_entry ops.CallIndirect n = None

-- the same by what the opcode means: 0x05 and 0x0B are those of `else` and `end` (5.4.1)
abbrev pub meant_entry : OpByte → ℕ → ℕ → Option Entry
meant_entry (Known op) b n = op_entry op n
meant_entry Float b n = None
meant_entry Unknown b n = if b == 0x05 then Some Else else (if b == 0x0B then Some End else None)

-- the entry of this opcode
abbrev pub brief_entry : Brief → Option Entry
brief_entry brief = meant_entry (meaning brief.opcode) brief.opcode brief.operand

-- whether the entry has an integer
abbrev pub has_integer : Entry → Bool
has_integer (Plain (instrs.Simple op)) = false
has_integer (Plain instr) = true
has_integer (Begin kind type) = false
has_integer Else = false
has_integer End = false

-- the first of the old marks is said so, and the new ones are behind it
pub record SaysFirst (brief : Brief) (old new : List (Mark Instr BlockType)) : Type 0 where
  pub entry : Entry
  pub said : brief_entry brief ≡ Some entry
  pub first : old ≡ mark entry ∷ new
  pub low : brief.operand < 128
  pub bare : has_integer entry ≡ false → brief.operand ≡ 0
