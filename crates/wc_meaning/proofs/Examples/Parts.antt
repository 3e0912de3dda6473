-- What the examples are made of.
use Rattle.std.specs.Prelude.{ℕ, List, [], Option, Some, None, codes}
use Rattle.wc_ops.specs.declared.val_type.ValType.{ValType}
use Rattle.wc_body.specs.declared.instr.Instr.{Instr}
use Rattle.wc_body.specs.declared.instr.BlockType.{BlockType as ResolvedType}
use Rattle.wc_body.specs.Standard.Nested.{Code}
use Rattle.wc_ast.specs.declared.func_type.FuncType.{FuncType}
use Rattle.wc_ast.specs.declared.func.Func.{Func}
use Rattle.wc_ast.specs.declared.module.Module.{Module}
use Rattle.wc_surface.specs.Standard.Identifiers.{Identifier, identifier}
use Rattle.wc_surface.specs.Standard.Written.Indices.{Index}
use Rattle.wc_surface.specs.Standard.Written.TypeUses.{Param, Signature, TypeUse}
use Rattle.wc_surface.specs.Standard.Written.Instructions.{Instrs}
use Rattle.wc_surface.specs.Standard.Written.Fields.{Import, Local, Declared, Function, Field, func_field}

-- `$a`, and `$b`, at the token of this number
abbrev pub a_at : ℕ → Identifier
a_at token = identifier token (codes "$a")

abbrev pub b_at : ℕ → Identifier
b_at token = identifier token (codes "$b")

-- a parameter, a local, parameters and results, and a type use
abbrev pub param : Option Identifier → ValType → Param
param id ty = record { id = id; ty = ty }

abbrev pub local : Option Identifier → ValType → ℕ → Local
local id ty token = record { id = id; ty = ty; token = token }

abbrev pub signature : List Param → List ValType → Signature
signature params results = record { params = params; results = results }

abbrev pub type_use : Option Index → List Param → List ValType → TypeUse
type_use index params results = record { index = index; signature = signature params results }

-- nothing is written
abbrev pub no_use : TypeUse
no_use = type_use None [] []

-- a field without an identifier and without exports
abbrev pub plain : Declared
plain = record { id = None; exports = [] }

-- the same with this identifier
abbrev pub named_plain : Identifier → Declared
named_plain i = record { id = Some i; exports = [] }

-- `(func ..)`, of a word at this token
abbrev pub func : ℕ → TypeUse → Instrs → Field
func token u c = func_field token plain (Function.code u [] c)

-- `(import "m" "n" ..)`, at the word `import` of this number
abbrev pub import_at : ℕ → Import
import_at token = record { token = token; «module» = codes "m"; item = codes "n" }

-- the function type of these, and the function of this type without locals
abbrev pub func_type : List ValType → List ValType → FuncType
func_type params results = record { params = params; results = results }

abbrev pub func_of : ℕ → Code Instr ResolvedType → Func
func_of ty body = record { ty = ty; locals = []; body = body }

-- the module of nothing
abbrev pub no_module : Module
no_module = record {
  types = [];
  imports = [];
  funcs = [];
  tables = [];
  mems = [];
  globals = [];
  exports = [];
  start = None;
  elems = [];
  datas = [];
}
