-- What is printed of types, of instructions and of expressions, with what each token says (Core 1.0, 6.4 and 6.5).
use Rattle.std.specs.Prelude.{ℕ, ◌==◌, if◌then◌else◌, List, [], ◌∷◌, ◌++◌, map}
use Rattle.std.specs.List.{flat_map}
use Rattle.wc_ops.specs.declared.op.Op.{Op}
use Rattle.wc_ops.specs.declared.op.Op.TheVariants as ops
use Rattle.wc_ops.specs.declared.val_type.ValType.{ValType as ValueType}
use Rattle.wc_ops.specs.Standard.Opcodes.{memory}
use Rattle.wc_body.specs.declared.instr.BlockType.{BlockType}
use Rattle.wc_body.specs.declared.instr.BlockType.TheVariants as block_types
use Rattle.wc_body.specs.declared.instr.Instr.{Instr}
use Rattle.wc_body.specs.declared.instr.Instr.TheVariants as instrs
use Rattle.wc_body.specs.Standard.Nested.{Region, block, loop, Code, Mark, plain, begin, begin_if, otherwise, close}
use Rattle.wc_body.specs.Standard.Nested.{flatten}
use Rattle.wc_body.specs.Standard.InstructionBytes.{op_of}
use Rattle.wc_syntax.specs.declared.kind.Kind.{Kind}
use Rattle.wc_syntax.specs.declared.kind.Kind.TheVariants as kind
use Rattle.wc_syntax.specs.declared.role.Role.{Role}
use Rattle.wc_syntax.specs.declared.role.Role.TheVariants as role
use Rattle.wc_readback.specs.Grammar.Signs.{Sign, opens, closes, key, kept_key, op_sign, type_sign, natural, literal}
use Rattle.wc_readback.specs.Grammar.Signs.{offset_sign, align_sign}

-- `(param i32 i64)`, unless there is none of these types; the words are the kind's and the types have the role (6.4.3)
abbrev pub values_signs : Kind → Role → List ValueType → List Sign
values_signs k r [] = []
values_signs k r (t ∷ ts) = opens ∷ key k ∷ (map (type_sign r) (t ∷ ts) ++ (closes ∷ []))

-- `(type n)` (6.6.3)
abbrev pub type_use_signs : ℕ → List Sign
type_use_signs n = opens ∷ key kind.TypeWord ∷ natural role.TypeIndex n ∷ closes ∷ []

-- `(result i32)`, or a type by its index, or nothing (6.5.2)
abbrev pub block_signs : BlockType → List Sign
block_signs block_types.Empty = []
block_signs (block_types.Value t) = opens ∷ key kind.ResultWord ∷ type_sign role.ResultType t ∷ closes ∷ []
block_signs (block_types.Index n) = type_use_signs n

-- an offset, unless it is zero (6.5.5)
abbrev pub offset_signs : ℕ → List Sign
offset_signs n = if n == 0 then [] else offset_sign n ∷ []

-- an alignment, unless it is the natural one (6.5.5)
abbrev pub align_signs : ℕ → ℕ → List Sign
align_signs natural a = if a == natural then [] else align_sign a ∷ []

-- numbers in this role
abbrev pub naturals : Role → List ℕ → List Sign
naturals r ns = map (natural r) ns

-- what follows the name of an instruction (6.5.2 to 6.5.6)
abbrev pub operand_signs : Instr → List Sign
operand_signs (instrs.Simple op) = []
operand_signs (instrs.Index op n) = natural role.Index n ∷ []
operand_signs (instrs.Mem op arg) = offset_signs arg.offset ++ align_signs (memory op).alignment arg.align
operand_signs (instrs.BrTable default labels) = naturals role.Index labels ++ (natural role.Index default ∷ [])
operand_signs (instrs.CallIndirect n) = type_use_signs n
operand_signs (instrs.I32Const z) = literal z ∷ []
operand_signs (instrs.I64Const z) = literal z ∷ []

-- the instruction that a region begins
abbrev pub region_op : Region → Op
region_op block = ops.Block
region_op loop = ops.Loop

-- an instruction, or where one begins, turns to its else part, or ends
abbrev pub mark_signs : Mark Instr BlockType → List Sign
mark_signs (plain i) = op_sign role.Plain (op_of i) ∷ operand_signs i
mark_signs (begin r t) = op_sign role.Begin (region_op r) ∷ block_signs t
mark_signs (begin_if t) = op_sign role.Begin ops.If ∷ block_signs t
mark_signs otherwise = kept_key role.Else kind.ElseWord ∷ []
mark_signs close = kept_key role.End kind.EndWord ∷ []

-- instructions in order, each with those nested in it
abbrev pub code_signs : Code Instr BlockType → List Sign
code_signs code = flat_map mark_signs (flatten code)
