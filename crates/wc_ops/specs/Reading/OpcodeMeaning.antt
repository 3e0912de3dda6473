-- What a byte means where an opcode may stand, computed (Core 1.0, 5.4; Core 2.0 for the sign extensions).
use Rattle.std.specs.Prelude.{ℕ, ◌==◌, List, [], ◌∷◌, Option, Some, None, if◌then◌else◌}
use Rattle.wc_ops.specs.declared.op.Op.{Op}
use Rattle.wc_ops.specs.declared.op.Op.TheVariants as ops
use Rattle.wc_ops.specs.declared.op.OpByte.{OpByte}
use Rattle.wc_ops.specs.declared.op.OpByte.TheVariants as bytes
use Rattle.wc_ops.specs.declared.op.SimpleOp.TheVariants as simple
use Rattle.wc_ops.specs.declared.op.IndexOp.TheVariants as index
use Rattle.wc_ops.specs.declared.op.MemOp.TheVariants as memory
use Rattle.wc_ops.specs.Standard.Opcodes.{row}
use Rattle.wc_ops.specs.Standard.ByteMeaning.{is_float_byte}

-- every instruction that has an opcode
abbrev pub all_ops : List Op
all_ops =
    ops.Simple simple.Unreachable ∷ ops.Simple simple.Nop ∷ ops.Simple simple.Return ∷ ops.Simple simple.Drop ∷
    ops.Simple simple.Select ∷ ops.Simple simple.MemorySize ∷ ops.Simple simple.MemoryGrow ∷
    ops.Simple simple.I32Eqz ∷ ops.Simple simple.I32Eq ∷ ops.Simple simple.I32Ne ∷ ops.Simple simple.I32LtS ∷
    ops.Simple simple.I32LtU ∷ ops.Simple simple.I32GtS ∷ ops.Simple simple.I32GtU ∷ ops.Simple simple.I32LeS ∷
    ops.Simple simple.I32LeU ∷ ops.Simple simple.I32GeS ∷ ops.Simple simple.I32GeU ∷ ops.Simple simple.I64Eqz ∷
    ops.Simple simple.I64Eq ∷ ops.Simple simple.I64Ne ∷ ops.Simple simple.I64LtS ∷ ops.Simple simple.I64LtU ∷
    ops.Simple simple.I64GtS ∷ ops.Simple simple.I64GtU ∷ ops.Simple simple.I64LeS ∷ ops.Simple simple.I64LeU ∷
    ops.Simple simple.I64GeS ∷ ops.Simple simple.I64GeU ∷ ops.Simple simple.I32Clz ∷ ops.Simple simple.I32Ctz ∷
    ops.Simple simple.I32Popcnt ∷ ops.Simple simple.I32Add ∷ ops.Simple simple.I32Sub ∷ ops.Simple simple.I32Mul ∷
    ops.Simple simple.I32DivS ∷ ops.Simple simple.I32DivU ∷ ops.Simple simple.I32RemS ∷ ops.Simple simple.I32RemU ∷
    ops.Simple simple.I32And ∷ ops.Simple simple.I32Or ∷ ops.Simple simple.I32Xor ∷ ops.Simple simple.I32Shl ∷
    ops.Simple simple.I32ShrS ∷ ops.Simple simple.I32ShrU ∷ ops.Simple simple.I32Rotl ∷ ops.Simple simple.I32Rotr ∷
    ops.Simple simple.I64Clz ∷ ops.Simple simple.I64Ctz ∷ ops.Simple simple.I64Popcnt ∷ ops.Simple simple.I64Add ∷
    ops.Simple simple.I64Sub ∷ ops.Simple simple.I64Mul ∷ ops.Simple simple.I64DivS ∷ ops.Simple simple.I64DivU ∷
    ops.Simple simple.I64RemS ∷ ops.Simple simple.I64RemU ∷ ops.Simple simple.I64And ∷ ops.Simple simple.I64Or ∷
    ops.Simple simple.I64Xor ∷ ops.Simple simple.I64Shl ∷ ops.Simple simple.I64ShrS ∷ ops.Simple simple.I64ShrU ∷
    ops.Simple simple.I64Rotl ∷ ops.Simple simple.I64Rotr ∷ ops.Simple simple.I32WrapI64 ∷
    ops.Simple simple.I64ExtendI32S ∷ ops.Simple simple.I64ExtendI32U ∷ ops.Simple simple.I32Extend8S ∷
    ops.Simple simple.I32Extend16S ∷ ops.Simple simple.I64Extend8S ∷ ops.Simple simple.I64Extend16S ∷
    ops.Simple simple.I64Extend32S ∷
    ops.Index index.Br ∷ ops.Index index.BrIf ∷ ops.Index index.Call ∷ ops.Index index.LocalGet ∷
    ops.Index index.LocalSet ∷ ops.Index index.LocalTee ∷ ops.Index index.GlobalGet ∷ ops.Index index.GlobalSet ∷
    ops.Mem memory.I32Load ∷ ops.Mem memory.I64Load ∷ ops.Mem memory.I32Load8S ∷ ops.Mem memory.I32Load8U ∷
    ops.Mem memory.I32Load16S ∷ ops.Mem memory.I32Load16U ∷ ops.Mem memory.I64Load8S ∷ ops.Mem memory.I64Load8U ∷
    ops.Mem memory.I64Load16S ∷ ops.Mem memory.I64Load16U ∷ ops.Mem memory.I64Load32S ∷ ops.Mem memory.I64Load32U ∷
    ops.Mem memory.I32Store ∷ ops.Mem memory.I64Store ∷ ops.Mem memory.I32Store8 ∷ ops.Mem memory.I32Store16 ∷
    ops.Mem memory.I64Store8 ∷ ops.Mem memory.I64Store16 ∷ ops.Mem memory.I64Store32 ∷
    ops.BrTable ∷ ops.CallIndirect ∷ ops.I32Const ∷ ops.I64Const ∷ ops.Block ∷ ops.Loop ∷ ops.If ∷ []

-- the one of these whose opcode the byte is
abbrev pub find_op : List Op → ℕ → Option Op
find_op [] x = None
find_op (op ∷ rest) x = if (row op).byte == x then Some op else find_op rest x

-- the instruction that was found, or what the byte means otherwise
abbrev pub known_or : ℕ → Option Op → OpByte
known_or x (Some op) = bytes.Known op
known_or x None = if is_float_byte x then bytes.Float else bytes.Unknown

-- what a byte means where an opcode may stand
unfoldable pub meaning : ℕ → OpByte
meaning x = known_or x (find_op all_ops x)
