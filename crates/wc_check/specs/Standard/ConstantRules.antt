-- Constant expressions (Core 1.0, 3.3.7).
use Rattle.std.specs.Prelude.{ℕ, Bool, true, false, cond, List, Option, Some, None, slice_get}
use Rattle.std.specs.Option.{option_and_then}
use Rattle.wc_ast.specs.declared.limits.GlobalType.{GlobalType}
use Rattle.wc_ops.specs.declared.val_type.ValType.{ValType}
use Rattle.wc_ops.specs.declared.val_type.ValType.TheVariants.{I32, I64}
use Rattle.wc_body.specs.declared.instr.BlockType.{BlockType}
use Rattle.wc_body.specs.declared.instr.Instr as instr
use Rattle.wc_body.specs.declared.instr.Instr.TheVariants.{Simple, Index, Mem, BrTable, CallIndirect, I32Const}
use Rattle.wc_body.specs.declared.instr.Instr.TheVariants.{I64Const}
use Rattle.wc_ops.specs.declared.op.IndexOp.{IndexOp}
use Rattle.wc_ops.specs.declared.op.IndexOp.TheVariants.{GlobalGet}
use Rattle.wc_body.specs.Standard.Nested.{Code, empty, op, region, choice}

-- the type of the global's value, where it is constant
abbrev pub constant_value : GlobalType → Option ValType
constant_value g = cond g.mutable None (Some g.ty)

-- the same, where the instruction reads a global of these
abbrev pub read_value : List GlobalType → IndexOp → ℕ → Option ValType
read_value readable GlobalGet n = option_and_then constant_value (slice_get readable n)
read_value readable _ n = None

-- the type of a constant instruction's value, where it may read these globals
abbrev pub constant_type : List GlobalType → instr.Instr → Option ValType
constant_type readable (Simple s) = None
constant_type readable (Index i n) = read_value readable i n
constant_type readable (Mem m arg) = None
constant_type readable (BrTable default labels) = None
constant_type readable (CallIndirect t) = None
constant_type readable (I32Const n) = Some I32
constant_type readable (I64Const n) = Some I64

-- the value has this type, where there is one
abbrev pub is_type : ValType → Option ValType → Bool
is_type wanted None = false
is_type I32 (Some I32) = true
is_type I32 (Some I64) = false
is_type I64 (Some I32) = false
is_type I64 (Some I64) = true

-- the expression is one constant instruction of this type, which may read these globals
abbrev pub is_constant : List GlobalType → ValType → Code instr.Instr BlockType → Bool
is_constant readable wanted empty = false
is_constant readable wanted (op p empty) = is_type wanted (constant_type readable p)
is_constant readable wanted (op p (op q next)) = false
is_constant readable wanted (op p (region r h inside next)) = false
is_constant readable wanted (op p (choice h one two next)) = false
is_constant readable wanted (region r h inside next) = false
is_constant readable wanted (choice h one two next) = false
