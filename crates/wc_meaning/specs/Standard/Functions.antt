-- Functions and globals (Core 1.0, 6.6.5 and 6.6.8): those that are no imports.
use Rattle.std.specs.Prelude.{ℕ, zero, suc, List, [], ◌∷◌, ◌++◌, map, length, None, slice_get}
use Rattle.std.specs.Option.{unwrap_or}
use Rattle.wc_ast.specs.declared.func.Func.{Func}
use Rattle.wc_ast.specs.declared.func.Global.{Global as GlobalOf}
use Rattle.wc_surface.specs.Standard.Written.TypeUses.{Param, TypeUse}
use Rattle.wc_surface.specs.Standard.Written.Instructions.{Instrs}
use Rattle.wc_surface.specs.Standard.Written.Fields.{Local, Function, Global, Field, func_field, global_field}
use Rattle.wc_meaning.specs.Standard.Contexts.{Space, Context, Faults}
use Rattle.wc_meaning.specs.Standard.Uses.{no_type, use_index}
use Rattle.wc_meaning.specs.Standard.Instructions.{resolved, instrs_faults}

-- how many parameters a function has: as many as its type, whether they are written once more or not; where its index
-- is that of no type, which is a fault, none (6.6.3)
abbrev pub param_count : Context → TypeUse → ℕ
param_count c u = length (unwrap_or (slice_get c.typedefs (use_index c u)) no_type).params

-- so many parameters, each with its identifier, where it is written with one
abbrev pub param_space : ℕ → List Param → Space
param_space zero ps = []
param_space (suc n) [] = None ∷ param_space n []
param_space (suc n) (p ∷ ps) = p.id ∷ param_space n ps

-- the locals of a function: parameters, and behind them those that are declared (6.6.5)
abbrev pub local_space : Context → TypeUse → List Local → Space
local_space c u locals = param_space (param_count c u) u.signature.params ++ map (λ l. l.id) locals

-- the context inside a function (6.6.5)
abbrev pub inside_func : Context → TypeUse → List Local → Context
inside_func c u locals = record c { locals = local_space c u locals }

-- the function of this type use, these declared locals and these instructions (6.6.5)
abbrev pub func_of : Context → TypeUse → List Local → Instrs → Func
func_of c u locals body = record {
  ty = use_index c u;
  locals = map (λ l. l.ty) locals;
  body = resolved (inside_func c u locals) body;
}

-- the function that a field defines
abbrev pub field_funcs : Context → Field → List Func
field_funcs c (func_field token d (Function.code u locals body)) = func_of c u locals body ∷ []
field_funcs c _ = []

-- what is wrong with the names in its instructions
abbrev pub func_faults : Context → Field → Faults
func_faults c (func_field token d (Function.code u locals body)) = instrs_faults (inside_func c u locals) body
func_faults c _ = []

-- the global that a field defines; its first value has no locals (6.6.8)
abbrev pub field_globals : Context → Field → List GlobalOf
field_globals c (global_field d (Global.init g body)) = record { ty = g; init = resolved c body } ∷ []
field_globals c _ = []

-- what is wrong with the names in its first value
abbrev pub global_faults : Context → Field → Faults
global_faults c (global_field d (Global.init g body)) = instrs_faults c body
global_faults c _ = []
