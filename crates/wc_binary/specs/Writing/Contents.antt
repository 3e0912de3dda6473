-- The canonical bytes of globals, segments and codes, and which of them have any.
use Rattle.std.specs.Prelude.{ℕ, List, length, ◌++◌}
use Rattle.std.specs.List.{AllByRecursion}
use Rattle.wc_leb128.specs.Writing.Bytes.{unsigned_bytes}
use Rattle.wc_ast.specs.declared.func.Global.{Global}
use Rattle.wc_ast.specs.declared.segment.Elem.{Elem}
use Rattle.wc_ast.specs.declared.segment.Data.{Data}
use Rattle.wc_ast.specs.declared.codes.FuncCode.{FuncCode}
use Rattle.wc_body.specs.Standard.ValueBytes.{vector_bytes, Fits32, FitsVector}
use Rattle.wc_binary.specs.Standard.Values.{IsByte}
use Rattle.wc_binary.specs.Writing.Values.{global_type_bytes, sized_bytes, FitsSized}
use Rattle.wc_body.specs.Standard.InstructionBytes.{expr_bytes, FitsExpr}
use Rattle.wc_binary.specs.Writing.Locals.{locals_bytes, FitsLocals}

-- a global (5.5.9)
abbrev pub global_bytes : Global → List ℕ
global_bytes g = global_type_bytes g.ty ++ expr_bytes g.init

-- an element segment (5.5.12)
abbrev pub elem_bytes : Elem → List ℕ
elem_bytes e = unsigned_bytes e.table ++ (expr_bytes e.offset ++ vector_bytes unsigned_bytes e.funcs)

-- a data segment (5.5.14)
abbrev pub data_bytes : Data → List ℕ
data_bytes d = unsigned_bytes d.memory ++ (expr_bytes d.offset ++ sized_bytes d.bytes)

-- what stands behind the size of a code (5.5.13)
abbrev pub func_bytes : FuncCode → List ℕ
func_bytes f = locals_bytes f.locals ++ expr_bytes f.body

-- a code (5.5.13)
abbrev pub code_bytes : FuncCode → List ℕ
code_bytes f = sized_bytes (func_bytes f)

-- a first value that has canonical bytes
abbrev pub FitsGlobal : Global → Type 0
FitsGlobal g = FitsExpr g.init

-- an element segment that has them
abbrev pub FitsElem : Elem → Type 0
FitsElem e = Fits32 e.table × (FitsExpr e.offset × FitsVector Fits32 e.funcs)

-- bytes, and as many as a count tells
abbrev pub FitsBytes : List ℕ → Type 0
FitsBytes bytes = Fits32 (length bytes) × AllByRecursion IsByte bytes

-- a data segment that has them
abbrev pub FitsData : Data → Type 0
FitsData d = Fits32 d.memory × (FitsExpr d.offset × FitsBytes d.bytes)

-- locals and a body that have them
abbrev pub FitsFunc : FuncCode → Type 0
FitsFunc f = FitsLocals f.locals × FitsExpr f.body

-- a code that has them
abbrev pub FitsCode : FuncCode → Type 0
FitsCode f = FitsSized func_bytes FitsFunc f
