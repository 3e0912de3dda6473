-- Instructions: opcodes, and what follows each (Core 1.0, 5.4; Core 2.0 for block types and the sign extensions).
use Rattle.std.specs.Prelude.{ℕ, ℤ, pos, negsuc, ◌==◌, nat_lt, Bool, ◌&&◌, not, Option, Some, None}
use Rattle.std.specs.Prelude.{Result, Ok, Err, if◌then◌else◌}
use Rattle.wc_ops.specs.declared.val_type.ValType.{ValType}
use Rattle.wc_ops.specs.declared.op.Op.{Op}
use Rattle.wc_ops.specs.declared.op.Op.TheVariants as ops
use Rattle.wc_ops.specs.declared.op.OpByte.{OpByte}
use Rattle.wc_ops.specs.declared.op.OpByte.TheVariants as bytes
use Rattle.wc_ops.specs.declared.op.SimpleOp.{SimpleOp}
use Rattle.wc_ops.specs.declared.op.SimpleOp.TheVariants as simple
use Rattle.wc_body.specs.declared.instr.Instr.{Instr}
use Rattle.wc_body.specs.declared.instr.Instr.TheVariants as instrs
use Rattle.wc_body.specs.declared.instr.BlockType.{BlockType}
use Rattle.wc_body.specs.declared.instr.BlockType.TheVariants as block_types
use Rattle.wc_body.specs.Standard.Nested.{Code, block, loop}
use Rattle.wc_ops.specs.Reading.OpcodeMeaning.{meaning}
use Rattle.wc_binary.specs.declared.fault.BinWhy.{BinWhy}
use Rattle.wc_binary.specs.declared.fault.BinWhy.TheVariants.{Opcode, ZeroByte, Float, WrongType}
use Rattle.wc_binary.specs.Standard.Expression.{Begun, plain_op, region_op, if_op, else_op, end_op}
use Rattle.wc_binary.specs.Standard.Phrase.{Phrase, gives, byte, signed, ◌>>=◌, judged, byte_or_signed, expression}
use Rattle.wc_binary.specs.Standard.Values.{only, u32, vector}
use Rattle.wc_binary.specs.Standard.Types.{value_type_of}

-- what the opcode with this meaning begins
abbrev pub begun_of : OpByte → Result (Begun Op) BinWhy
begun_of (bytes.Known (ops.Simple op)) = Ok (plain_op (ops.Simple op))
begun_of (bytes.Known (ops.Index op)) = Ok (plain_op (ops.Index op))
begun_of (bytes.Known (ops.Mem op)) = Ok (plain_op (ops.Mem op))
begun_of (bytes.Known ops.BrTable) = Ok (plain_op ops.BrTable)
begun_of (bytes.Known ops.CallIndirect) = Ok (plain_op ops.CallIndirect)
begun_of (bytes.Known ops.I32Const) = Ok (plain_op ops.I32Const)
begun_of (bytes.Known ops.I64Const) = Ok (plain_op ops.I64Const)
begun_of (bytes.Known ops.Block) = Ok (region_op block)
begun_of (bytes.Known ops.Loop) = Ok (region_op loop)
begun_of (bytes.Known ops.If) = Ok if_op
begun_of bytes.Float = Err Float
begun_of bytes.Unknown = Err Opcode

-- what an opcode begins; `else` and `end` have bytes of their own (5.4.1)
abbrev pub opcode : ℕ → Result (Begun Op) BinWhy
opcode x = if x == 0x05 then Ok else_op else (if x == 0x0B then Ok end_op else begun_of (meaning x))

-- ---- what follows an opcode

-- a signed integer of 32 bits (5.2.2)
unfoldable pub s32 : Phrase ℤ
s32 = signed 32

-- a signed integer of 64 bits (5.2.2)
unfoldable pub s64 : Phrase ℤ
s64 = signed 64

-- a byte that the standard keeps for later
abbrev pub zero_byte : Phrase (Unit {0})
zero_byte = byte (only 0x00 ZeroByte)

-- a zero byte follows the two instructions on the size of memory, and nothing any other simple one
abbrev pub follows_simple : SimpleOp → Phrase Instr
follows_simple simple.MemorySize = zero_byte >>= λ _. gives (instrs.Simple simple.MemorySize)
follows_simple simple.MemoryGrow = zero_byte >>= λ _. gives (instrs.Simple simple.MemoryGrow)
follows_simple op = gives (instrs.Simple op)

-- what no byte spells
abbrev pub nothing_follows : Phrase Instr
nothing_follows = byte (λ x. Err Opcode)

-- what follows the opcode of an instruction in which none is nested; a block, a loop and an if are none
unfoldable pub follows : Op → Phrase Instr
follows (ops.Simple op) = follows_simple op
follows (ops.Index op) = u32 >>= λ i. gives (instrs.Index op i)
follows (ops.Mem op) =
    u32 >>= λ align. u32 >>= λ offset. gives (instrs.Mem op (record { align = align; offset = offset }))
follows ops.BrTable = vector u32 >>= λ labels. u32 >>= λ default. gives (instrs.BrTable default labels)
follows ops.CallIndirect = u32 >>= λ ty. zero_byte >>= λ _. gives (instrs.CallIndirect ty)
follows ops.I32Const = s32 >>= λ n. gives (instrs.I32Const n)
follows ops.I64Const = s64 >>= λ n. gives (instrs.I64Const n)
follows ops.Block = nothing_follows
follows ops.Loop = nothing_follows
follows ops.If = nothing_follows

-- is it a byte by which a block type is told that has no index
abbrev pub is_short : ℕ → Bool
is_short x = not (nat_lt x 0x40) && nat_lt x 0x80

-- a block type without an index, or an integer
pub data BlockHead : Type 0 where
  short : BlockType → BlockHead
  whole : ℤ → BlockHead

-- a value type as a block type
abbrev pub valued : Result ValType BinWhy → Result BlockHead BinWhy
valued (Ok t) = Ok (short (block_types.Value t))
valued (Err r) = Err r

-- what a byte tells that begins no index: that there is no value, or the type of one
abbrev pub head_of : ℕ → Result BlockHead BinWhy
head_of x = if x == 0x40 then Ok (short block_types.Empty) else valued (value_type_of x)

-- a block type without an index
abbrev pub headed : Result BlockType BinWhy → Result BlockHead BinWhy
headed (Ok t) = Ok (short t)
headed (Err r) = Err r

-- a negative integer is no type: it is told at its first byte
abbrev pub index_fault : BlockHead → Option (ℕ × BinWhy)
index_fault (short t) = None
index_fault (whole (pos n)) = None
index_fault (whole (negsuc n)) = Some (0, WrongType)

-- the block type; one whose index is negative is a fault
abbrev pub type_of : BlockHead → BlockType
type_of (short t) = t
type_of (whole (pos n)) = block_types.Index n
type_of (whole (negsuc n)) = block_types.Empty

-- a block type: none, a value type, or the index of a function type as a signed integer that isn't negative
unfoldable pub block_type : Phrase BlockType
block_type = judged (byte_or_signed is_short head_of 33 (λ z. whole z)) index_fault >>= λ head. gives (type_of head)

-- an expression (5.4.6)
unfoldable pub expr : Phrase (Code Instr BlockType)
expr = expression opcode follows block_type
