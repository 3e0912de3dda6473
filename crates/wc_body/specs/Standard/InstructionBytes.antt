-- The canonical bytes of instructions and of expressions, written out; and which of them have some (Core 1.0, 5.4).
use Rattle.std.specs.Prelude.{ℕ, pos, ◌≤◌, List, [], ◌∷◌, ◌++◌}
use Rattle.wc_leb128.specs.Standard.Shortest.{HoldsSigned}
use Rattle.wc_leb128.specs.Writing.Bytes.{unsigned_bytes, signed_bytes}
use Rattle.wc_ops.specs.declared.op.Op.{Op}
use Rattle.wc_ops.specs.declared.op.Op.TheVariants as ops
use Rattle.wc_ops.specs.declared.op.SimpleOp.{SimpleOp}
use Rattle.wc_ops.specs.declared.op.SimpleOp.TheVariants as simple
use Rattle.wc_body.specs.declared.instr.Instr.{Instr}
use Rattle.wc_body.specs.declared.instr.Instr.TheVariants as instrs
use Rattle.wc_body.specs.declared.instr.BlockType.{BlockType}
use Rattle.wc_body.specs.declared.instr.BlockType.TheVariants as block_types
use Rattle.wc_body.specs.Standard.Nested.{Region, block, loop, Code, nesting, nesting_limit}
use Rattle.wc_ops.specs.Standard.Opcodes.{row}
use Rattle.wc_body.specs.Standard.Throughout.{Throughout}
use Rattle.wc_body.specs.Standard.Pieces.{Pieces, emitted}
use Rattle.wc_body.specs.Standard.ValueBytes.{vector_bytes, value_type_bytes, Fits32, FitsVector}

-- the opcode of an instruction
abbrev pub op_of : Instr → Op
op_of (instrs.Simple op) = ops.Simple op
op_of (instrs.Index op i) = ops.Index op
op_of (instrs.Mem op arg) = ops.Mem op
op_of (instrs.BrTable default labels) = ops.BrTable
op_of (instrs.CallIndirect ty) = ops.CallIndirect
op_of (instrs.I32Const n) = ops.I32Const
op_of (instrs.I64Const n) = ops.I64Const

-- the byte that the standard keeps for later (5.4.4)
abbrev pub simple_rest : SimpleOp → List ℕ
simple_rest simple.MemorySize = 0x00 ∷ []
simple_rest simple.MemoryGrow = 0x00 ∷ []
simple_rest _ = []

-- what follows the opcode (5.4.1 to 5.4.5)
abbrev pub rest_bytes : Instr → List ℕ
rest_bytes (instrs.Simple op) = simple_rest op
rest_bytes (instrs.Index op i) = unsigned_bytes i
rest_bytes (instrs.Mem op arg) = unsigned_bytes arg.align ++ unsigned_bytes arg.offset
rest_bytes (instrs.BrTable default labels) = vector_bytes unsigned_bytes labels ++ unsigned_bytes default
rest_bytes (instrs.CallIndirect ty) = unsigned_bytes ty ++ (0x00 ∷ [])
rest_bytes (instrs.I32Const n) = signed_bytes n
rest_bytes (instrs.I64Const n) = signed_bytes n

-- the opcode, and what follows it
abbrev pub instr_bytes : Instr → List ℕ
instr_bytes i = ((row (op_of i)).byte ∷ []) ++ rest_bytes i

-- none, a value type, or the index of a function type as a signed integer of 33 bits (Core 2.0, 5.4.1)
abbrev pub block_type_bytes : BlockType → List ℕ
block_type_bytes block_types.Empty = 0x40 ∷ []
block_type_bytes (block_types.Value ty) = value_type_bytes ty
block_type_bytes (block_types.Index i) = signed_bytes (pos i)

-- the opcode of a block or a loop
abbrev pub region_bytes : Region → List ℕ
region_bytes block = 0x02 ∷ []
region_bytes loop = 0x03 ∷ []

-- each part by its bytes, whatever encloses it (5.4.1)
abbrev pub code_pieces : Pieces (Unit {0}) Instr BlockType ℕ
code_pieces = record {
  enter = λ s t. s;
  plain = λ s i. instr_bytes i;
  begin = λ s r t. region_bytes r ++ block_type_bytes t;
  begin_if = λ s t. (0x04 ∷ []) ++ block_type_bytes t;
  otherwise = λ s. 0x05 ∷ [];
  close = λ s. 0x0B ∷ [];
}

-- instructions in order, each with those nested in it; an else part without instructions has no bytes
abbrev pub code_bytes : Code Instr BlockType → List ℕ
code_bytes code = emitted code_pieces tt code

-- instructions, and the byte that ends them (5.4.6)
abbrev pub expr_bytes : Code Instr BlockType → List ℕ
expr_bytes code = code_bytes code ++ (0x0B ∷ [])

-- ---- each number fits its width, and each count is below 2 ^ 32

-- each number of the instruction fits
abbrev pub FitsInstr : Instr → Type 0
FitsInstr (instrs.Simple op) = Unit {0}
FitsInstr (instrs.Index op i) = Fits32 i
FitsInstr (instrs.Mem op arg) = Fits32 arg.align × Fits32 arg.offset
FitsInstr (instrs.BrTable default labels) = FitsVector Fits32 labels × Fits32 default
FitsInstr (instrs.CallIndirect ty) = Fits32 ty
FitsInstr (instrs.I32Const n) = HoldsSigned 32 n
FitsInstr (instrs.I64Const n) = HoldsSigned 64 n

-- the index of a type fits
abbrev pub FitsBlockType : BlockType → Type 0
FitsBlockType block_types.Empty = Unit {0}
FitsBlockType (block_types.Value ty) = Unit {0}
FitsBlockType (block_types.Index i) = Fits32 i

-- the same of each instruction, nested no deeper than the limit
abbrev pub FitsExpr : Code Instr BlockType → Type 0
FitsExpr code = Throughout FitsInstr FitsBlockType code × (nesting code ≤ nesting_limit)
