-- What the value of each kind may be.
use Rattle.std.specs.Prelude.{◌≡◌, ℕ, ◌-◌, ◌^◌, ◌<◌, ◌≤◌, ◌⊎◌}
use Rattle.wc_ops.specs.declared.op.SimpleOp.{SimpleOp}
use Rattle.wc_ops.specs.declared.op.IndexOp.{IndexOp}
use Rattle.wc_ops.specs.declared.op.MemOp.{MemOp}
use Rattle.wc_ops.specs.declared.op.Op.TheVariants as op
use Rattle.wc_ops.specs.declared.val_type.ValType.{ValType as ValueType}
use Rattle.wc_syntax.specs.declared.kind.Kind.{Kind}
use Rattle.wc_syntax.specs.declared.kind.Kind.TheVariants as kind
use Rattle.wc_symbols.specs.declared.symbol.Value.{Value}
use Rattle.wc_symbols.specs.declared.symbol.Value.TheVariants.{Nothing, Number, Offset, Exponent, Instruction, ValType}

-- the value is one of the kind, in its range; most kinds have none
abbrev pub FitsKind : Kind → Value → Type 0
FitsKind kind.Natural32 v = (n : ℕ) × (v ≡ Number n) × (n < 2 ^ 32)
FitsKind kind.Natural64 v = (n : ℕ) × (v ≡ Number n) × (2 ^ 32 ≤ n) × (n < 2 ^ 64)
FitsKind kind.Signed32 v = (n : ℕ) × (v ≡ Number n) × ((n < 2 ^ 31) ⊎ (2 ^ 64 - 2 ^ 31 ≤ n)) × (n < 2 ^ 64)
FitsKind kind.Signed64 v = (n : ℕ) × (v ≡ Number n) × (2 ^ 31 ≤ n) × (n < 2 ^ 64 - 2 ^ 31)
FitsKind kind.MemOffset v = (n : ℕ) × (v ≡ Offset n) × (n < 2 ^ 32)
FitsKind kind.MemAlign v = (e : ℕ) × (v ≡ Exponent e) × (e < 32)
FitsKind kind.Simple v = (o : SimpleOp) × (v ≡ Instruction (op.Simple o))
FitsKind kind.Indexed v = (o : IndexOp) × (v ≡ Instruction (op.Index o))
FitsKind kind.Access v = (o : MemOp) × (v ≡ Instruction (op.Mem o))
FitsKind kind.BrTable v = v ≡ Instruction op.BrTable
FitsKind kind.CallIndirect v = v ≡ Instruction op.CallIndirect
FitsKind kind.Const32 v = v ≡ Instruction op.I32Const
FitsKind kind.Const64 v = v ≡ Instruction op.I64Const
FitsKind kind.Region v = (v ≡ Instruction op.Block) ⊎ (v ≡ Instruction op.Loop)
FitsKind kind.If v = v ≡ Instruction op.If
FitsKind kind.ValType v = (t : ValueType) × (v ≡ ValType t)
FitsKind _ v = v ≡ Nothing
