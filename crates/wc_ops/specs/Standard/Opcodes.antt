-- The instructions as the standard's tables have them (Core 1.0, 5.4 and 6.5; Core 2.0 for the sign extensions).
use Rattle.std.specs.Prelude.{ℕ, List, codes}
use Rattle.wc_ops.specs.declared.op.SimpleOp.{SimpleOp}
use Rattle.wc_ops.specs.declared.op.SimpleOp.TheVariants as simple_op
use Rattle.wc_ops.specs.declared.op.IndexOp.{IndexOp}
use Rattle.wc_ops.specs.declared.op.IndexOp.TheVariants as index_op
use Rattle.wc_ops.specs.declared.op.MemOp.{MemOp}
use Rattle.wc_ops.specs.declared.op.MemOp.TheVariants as mem_op
use Rattle.wc_ops.specs.declared.op.Op.{Op}
use Rattle.wc_ops.specs.declared.op.Op.TheVariants as op

-- an opcode, and the name in the text format as bytes
pub record Row : Type 0 where
  pub byte : ℕ
  pub name : List ℕ

-- for a load or a store also its natural alignment: the exponent of two that is its width in bytes (6.5.5)
pub record MemoryRow : Type 0 where
  pub byte : ℕ
  pub name : List ℕ
  pub alignment : ℕ

-- a row of the table
abbrev pub at : ℕ → List ℕ → Row
at b n = record { byte = b; name = n }

-- a row with a natural alignment
abbrev pub aligned : ℕ → List ℕ → ℕ → MemoryRow
aligned b n a = record { byte = b; name = n; alignment = a }

-- no immediate (5.4.1 to 5.4.5)
abbrev pub simple : SimpleOp → Row
simple simple_op.Unreachable = at 0x00 (codes "unreachable")
simple simple_op.Nop = at 0x01 (codes "nop")
simple simple_op.Return = at 0x0f (codes "return")
simple simple_op.Drop = at 0x1a (codes "drop")
simple simple_op.Select = at 0x1b (codes "select")
simple simple_op.MemorySize = at 0x3f (codes "memory.size")
simple simple_op.MemoryGrow = at 0x40 (codes "memory.grow")
simple simple_op.I32Eqz = at 0x45 (codes "i32.eqz")
simple simple_op.I32Eq = at 0x46 (codes "i32.eq")
simple simple_op.I32Ne = at 0x47 (codes "i32.ne")
simple simple_op.I32LtS = at 0x48 (codes "i32.lt_s")
simple simple_op.I32LtU = at 0x49 (codes "i32.lt_u")
simple simple_op.I32GtS = at 0x4a (codes "i32.gt_s")
simple simple_op.I32GtU = at 0x4b (codes "i32.gt_u")
simple simple_op.I32LeS = at 0x4c (codes "i32.le_s")
simple simple_op.I32LeU = at 0x4d (codes "i32.le_u")
simple simple_op.I32GeS = at 0x4e (codes "i32.ge_s")
simple simple_op.I32GeU = at 0x4f (codes "i32.ge_u")
simple simple_op.I64Eqz = at 0x50 (codes "i64.eqz")
simple simple_op.I64Eq = at 0x51 (codes "i64.eq")
simple simple_op.I64Ne = at 0x52 (codes "i64.ne")
simple simple_op.I64LtS = at 0x53 (codes "i64.lt_s")
simple simple_op.I64LtU = at 0x54 (codes "i64.lt_u")
simple simple_op.I64GtS = at 0x55 (codes "i64.gt_s")
simple simple_op.I64GtU = at 0x56 (codes "i64.gt_u")
simple simple_op.I64LeS = at 0x57 (codes "i64.le_s")
simple simple_op.I64LeU = at 0x58 (codes "i64.le_u")
simple simple_op.I64GeS = at 0x59 (codes "i64.ge_s")
simple simple_op.I64GeU = at 0x5a (codes "i64.ge_u")
simple simple_op.I32Clz = at 0x67 (codes "i32.clz")
simple simple_op.I32Ctz = at 0x68 (codes "i32.ctz")
simple simple_op.I32Popcnt = at 0x69 (codes "i32.popcnt")
simple simple_op.I32Add = at 0x6a (codes "i32.add")
simple simple_op.I32Sub = at 0x6b (codes "i32.sub")
simple simple_op.I32Mul = at 0x6c (codes "i32.mul")
simple simple_op.I32DivS = at 0x6d (codes "i32.div_s")
simple simple_op.I32DivU = at 0x6e (codes "i32.div_u")
simple simple_op.I32RemS = at 0x6f (codes "i32.rem_s")
simple simple_op.I32RemU = at 0x70 (codes "i32.rem_u")
simple simple_op.I32And = at 0x71 (codes "i32.and")
simple simple_op.I32Or = at 0x72 (codes "i32.or")
simple simple_op.I32Xor = at 0x73 (codes "i32.xor")
simple simple_op.I32Shl = at 0x74 (codes "i32.shl")
simple simple_op.I32ShrS = at 0x75 (codes "i32.shr_s")
simple simple_op.I32ShrU = at 0x76 (codes "i32.shr_u")
simple simple_op.I32Rotl = at 0x77 (codes "i32.rotl")
simple simple_op.I32Rotr = at 0x78 (codes "i32.rotr")
simple simple_op.I64Clz = at 0x79 (codes "i64.clz")
simple simple_op.I64Ctz = at 0x7a (codes "i64.ctz")
simple simple_op.I64Popcnt = at 0x7b (codes "i64.popcnt")
simple simple_op.I64Add = at 0x7c (codes "i64.add")
simple simple_op.I64Sub = at 0x7d (codes "i64.sub")
simple simple_op.I64Mul = at 0x7e (codes "i64.mul")
simple simple_op.I64DivS = at 0x7f (codes "i64.div_s")
simple simple_op.I64DivU = at 0x80 (codes "i64.div_u")
simple simple_op.I64RemS = at 0x81 (codes "i64.rem_s")
simple simple_op.I64RemU = at 0x82 (codes "i64.rem_u")
simple simple_op.I64And = at 0x83 (codes "i64.and")
simple simple_op.I64Or = at 0x84 (codes "i64.or")
simple simple_op.I64Xor = at 0x85 (codes "i64.xor")
simple simple_op.I64Shl = at 0x86 (codes "i64.shl")
simple simple_op.I64ShrS = at 0x87 (codes "i64.shr_s")
simple simple_op.I64ShrU = at 0x88 (codes "i64.shr_u")
simple simple_op.I64Rotl = at 0x89 (codes "i64.rotl")
simple simple_op.I64Rotr = at 0x8a (codes "i64.rotr")
simple simple_op.I32WrapI64 = at 0xa7 (codes "i32.wrap_i64")
simple simple_op.I64ExtendI32S = at 0xac (codes "i64.extend_i32_s")
simple simple_op.I64ExtendI32U = at 0xad (codes "i64.extend_i32_u")
simple simple_op.I32Extend8S = at 0xc0 (codes "i32.extend8_s")
simple simple_op.I32Extend16S = at 0xc1 (codes "i32.extend16_s")
simple simple_op.I64Extend8S = at 0xc2 (codes "i64.extend8_s")
simple simple_op.I64Extend16S = at 0xc3 (codes "i64.extend16_s")
simple simple_op.I64Extend32S = at 0xc4 (codes "i64.extend32_s")

-- an index (5.4.1, 5.4.3)
abbrev pub index : IndexOp → Row
index index_op.Br = at 0x0c (codes "br")
index index_op.BrIf = at 0x0d (codes "br_if")
index index_op.Call = at 0x10 (codes "call")
index index_op.LocalGet = at 0x20 (codes "local.get")
index index_op.LocalSet = at 0x21 (codes "local.set")
index index_op.LocalTee = at 0x22 (codes "local.tee")
index index_op.GlobalGet = at 0x23 (codes "global.get")
index index_op.GlobalSet = at 0x24 (codes "global.set")

-- an alignment and an offset (5.4.4, 6.5.5)
abbrev pub memory : MemOp → MemoryRow
memory mem_op.I32Load = aligned 0x28 (codes "i32.load") 2
memory mem_op.I64Load = aligned 0x29 (codes "i64.load") 3
memory mem_op.I32Load8S = aligned 0x2c (codes "i32.load8_s") 0
memory mem_op.I32Load8U = aligned 0x2d (codes "i32.load8_u") 0
memory mem_op.I32Load16S = aligned 0x2e (codes "i32.load16_s") 1
memory mem_op.I32Load16U = aligned 0x2f (codes "i32.load16_u") 1
memory mem_op.I64Load8S = aligned 0x30 (codes "i64.load8_s") 0
memory mem_op.I64Load8U = aligned 0x31 (codes "i64.load8_u") 0
memory mem_op.I64Load16S = aligned 0x32 (codes "i64.load16_s") 1
memory mem_op.I64Load16U = aligned 0x33 (codes "i64.load16_u") 1
memory mem_op.I64Load32S = aligned 0x34 (codes "i64.load32_s") 2
memory mem_op.I64Load32U = aligned 0x35 (codes "i64.load32_u") 2
memory mem_op.I32Store = aligned 0x36 (codes "i32.store") 2
memory mem_op.I64Store = aligned 0x37 (codes "i64.store") 3
memory mem_op.I32Store8 = aligned 0x3a (codes "i32.store8") 0
memory mem_op.I32Store16 = aligned 0x3b (codes "i32.store16") 1
memory mem_op.I64Store8 = aligned 0x3c (codes "i64.store8") 0
memory mem_op.I64Store16 = aligned 0x3d (codes "i64.store16") 1
memory mem_op.I64Store32 = aligned 0x3e (codes "i64.store32") 2

-- every instruction
abbrev pub row : Op → Row
row (op.Simple o) = simple o
row (op.Index o) = index o
row (op.Mem o) = at (memory o).byte (memory o).name
row op.Block = at 0x02 (codes "block")
row op.Loop = at 0x03 (codes "loop")
row op.If = at 0x04 (codes "if")
row op.BrTable = at 0x0e (codes "br_table")
row op.CallIndirect = at 0x11 (codes "call_indirect")
row op.I32Const = at 0x41 (codes "i32.const")
row op.I64Const = at 0x42 (codes "i64.const")
