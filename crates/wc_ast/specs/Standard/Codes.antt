-- The functions of a module, by the indices of their types and by their codes (Core 1.0, 5.5.6 and 5.5.13).
use Rattle.std.specs.Prelude.{ℕ, List, [], ◌∷◌}
use Rattle.wc_ops.specs.declared.val_type.ValType.{ValType}
use Rattle.wc_body.specs.declared.instr.BlockType.{BlockType}
use Rattle.wc_body.specs.declared.instr.Instr.{Instr}
use Rattle.wc_body.specs.Standard.Nested.{Code}
use Rattle.wc_ast.specs.declared.codes.FuncCode.{FuncCode}
use Rattle.wc_ast.specs.declared.func.Func.{Func}

-- the code of these locals and this body
abbrev pub code : List ValType → Code Instr BlockType → FuncCode
code locals body = record { locals = locals; body = body }

-- the body of a code
abbrev pub body_of : FuncCode → Code Instr BlockType
body_of c = c.body

-- the index of a function's type
abbrev pub type_of : Func → ℕ
type_of f = f.ty

-- a function's code
abbrev pub code_of : Func → FuncCode
code_of f = record { locals = f.locals; body = f.body }

-- the function of this type and this code
abbrev pub func : ℕ → FuncCode → Func
func t c = record { ty = t; locals = c.locals; body = c.body }

-- the functions of these types and these codes, place by place, as far as there are both
abbrev pub funcs_of : List ℕ → List FuncCode → List Func
funcs_of [] cs = []
funcs_of (t ∷ ts) [] = []
funcs_of (t ∷ ts) (c ∷ cs) = func t c ∷ funcs_of ts cs
