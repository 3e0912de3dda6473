-- The names of instructions are words.
use Rattle.std.proofs.Common.{◌≡◌, ℕ, zero, suc, true, map, replicate, refl}
use Rattle.wc_ops.specs.declared.op.SimpleOp.{SimpleOp}
use Rattle.wc_ops.specs.declared.op.SimpleOp.TheVariants as simple_op
use Rattle.wc_ops.specs.declared.op.IndexOp.{IndexOp}
use Rattle.wc_ops.specs.declared.op.IndexOp.TheVariants as index_op
use Rattle.wc_ops.specs.declared.op.MemOp.{MemOp}
use Rattle.wc_ops.specs.declared.op.MemOp.TheVariants as mem_op
use Rattle.wc_body.specs.declared.entry.Kind.{Kind}
use Rattle.wc_body.specs.declared.entry.Kind.TheVariants as kinds
use Rattle.wc_ast.specs.declared.export.ExportKind.{ExportKind}
use Rattle.wc_ast.specs.declared.export.ExportKind.TheVariants as export_kinds
use Rattle.wc_ops.specs.Standard.Opcodes.{simple, index, memory}
use Rattle.wc_tokens.specs.Standard.Lexemes.{is_idchar}
use Rattle.wc_ops.specs.declared.val_type.ValType.{ValType}
use Rattle.wc_ops.specs.declared.val_type.ValType.TheVariants.{I32, I64}
use Rattle.wc_print.specs.Standard.Printed.{token_of}
use Rattle.wc_print.specs.Standard.Printable.{is_word, IsSpelled, AreSpelled}
use Rattle.wc_print.specs.Standard.Lines.{head_word, type_item}
use Rattle.wc_print.specs.Standard.Layout.{kind_word}

pub simple-word : (op : SimpleOp) → is_word (simple op).name ≡ true
unfolding is_idchar
simple-word simple_op.Unreachable = refl
simple-word simple_op.Nop = refl
simple-word simple_op.Return = refl
simple-word simple_op.Drop = refl
simple-word simple_op.Select = refl
simple-word simple_op.MemorySize = refl
simple-word simple_op.MemoryGrow = refl
simple-word simple_op.I32Eqz = refl
simple-word simple_op.I32Eq = refl
simple-word simple_op.I32Ne = refl
simple-word simple_op.I32LtS = refl
simple-word simple_op.I32LtU = refl
simple-word simple_op.I32GtS = refl
simple-word simple_op.I32GtU = refl
simple-word simple_op.I32LeS = refl
simple-word simple_op.I32LeU = refl
simple-word simple_op.I32GeS = refl
simple-word simple_op.I32GeU = refl
simple-word simple_op.I64Eqz = refl
simple-word simple_op.I64Eq = refl
simple-word simple_op.I64Ne = refl
simple-word simple_op.I64LtS = refl
simple-word simple_op.I64LtU = refl
simple-word simple_op.I64GtS = refl
simple-word simple_op.I64GtU = refl
simple-word simple_op.I64LeS = refl
simple-word simple_op.I64LeU = refl
simple-word simple_op.I64GeS = refl
simple-word simple_op.I64GeU = refl
simple-word simple_op.I32Clz = refl
simple-word simple_op.I32Ctz = refl
simple-word simple_op.I32Popcnt = refl
simple-word simple_op.I32Add = refl
simple-word simple_op.I32Sub = refl
simple-word simple_op.I32Mul = refl
simple-word simple_op.I32DivS = refl
simple-word simple_op.I32DivU = refl
simple-word simple_op.I32RemS = refl
simple-word simple_op.I32RemU = refl
simple-word simple_op.I32And = refl
simple-word simple_op.I32Or = refl
simple-word simple_op.I32Xor = refl
simple-word simple_op.I32Shl = refl
simple-word simple_op.I32ShrS = refl
simple-word simple_op.I32ShrU = refl
simple-word simple_op.I32Rotl = refl
simple-word simple_op.I32Rotr = refl
simple-word simple_op.I64Clz = refl
simple-word simple_op.I64Ctz = refl
simple-word simple_op.I64Popcnt = refl
simple-word simple_op.I64Add = refl
simple-word simple_op.I64Sub = refl
simple-word simple_op.I64Mul = refl
simple-word simple_op.I64DivS = refl
simple-word simple_op.I64DivU = refl
simple-word simple_op.I64RemS = refl
simple-word simple_op.I64RemU = refl
simple-word simple_op.I64And = refl
simple-word simple_op.I64Or = refl
simple-word simple_op.I64Xor = refl
simple-word simple_op.I64Shl = refl
simple-word simple_op.I64ShrS = refl
simple-word simple_op.I64ShrU = refl
simple-word simple_op.I64Rotl = refl
simple-word simple_op.I64Rotr = refl
simple-word simple_op.I32WrapI64 = refl
simple-word simple_op.I64ExtendI32S = refl
simple-word simple_op.I64ExtendI32U = refl
simple-word simple_op.I32Extend8S = refl
simple-word simple_op.I32Extend16S = refl
simple-word simple_op.I64Extend8S = refl
simple-word simple_op.I64Extend16S = refl
simple-word simple_op.I64Extend32S = refl

pub index-word : (op : IndexOp) → is_word (index op).name ≡ true
unfolding is_idchar
index-word index_op.Br = refl
index-word index_op.BrIf = refl
index-word index_op.Call = refl
index-word index_op.LocalGet = refl
index-word index_op.LocalSet = refl
index-word index_op.LocalTee = refl
index-word index_op.GlobalGet = refl
index-word index_op.GlobalSet = refl

pub memory-word : (op : MemOp) → is_word (memory op).name ≡ true
unfolding is_idchar
memory-word mem_op.I32Load = refl
memory-word mem_op.I64Load = refl
memory-word mem_op.I32Load8S = refl
memory-word mem_op.I32Load8U = refl
memory-word mem_op.I32Load16S = refl
memory-word mem_op.I32Load16U = refl
memory-word mem_op.I64Load8S = refl
memory-word mem_op.I64Load8U = refl
memory-word mem_op.I64Load16S = refl
memory-word mem_op.I64Load16U = refl
memory-word mem_op.I64Load32S = refl
memory-word mem_op.I64Load32U = refl
memory-word mem_op.I32Store = refl
memory-word mem_op.I64Store = refl
memory-word mem_op.I32Store8 = refl
memory-word mem_op.I32Store16 = refl
memory-word mem_op.I64Store8 = refl
memory-word mem_op.I64Store16 = refl
memory-word mem_op.I64Store32 = refl

pub head-word : (kind : Kind) → is_word (head_word kind) ≡ true
unfolding is_idchar
head-word kinds.Block = refl
head-word kinds.Loop = refl
head-word kinds.If = refl

pub kind-word : (kind : ExportKind) → is_word (kind_word kind) ≡ true
unfolding is_idchar
kind-word export_kinds.Func = refl
kind-word export_kinds.Table = refl
kind-word export_kinds.Memory = refl
kind-word export_kinds.Global = refl

pub type-spelled : (t : ValType) → IsSpelled (token_of (type_item t))
unfolding is_idchar
type-spelled I32 = refl
type-spelled I64 = refl

-- so many of one type
pub types-spelled : (n : ℕ) (t : ValType) → AreSpelled (map type_item (replicate n t))
types-spelled zero t = tt
types-spelled (suc n) t = (type-spelled t, types-spelled n t)
