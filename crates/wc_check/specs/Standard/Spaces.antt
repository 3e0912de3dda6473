-- The index spaces of a module: what an index may name, imports first (Core 1.0, 2.5.1).
use Rattle.std.specs.Prelude.{ℕ, List, [], ◌∷◌, ◌+◌, ◌++◌, length, map, slice_get}
use Rattle.std.specs.List.{flat_map}
use Rattle.std.specs.Option.{option_map_or}
use Rattle.wc_ast.specs.declared.import.Desc.{Desc}
use Rattle.wc_ast.specs.declared.import.Desc.TheVariants.{Func, Table, Memory, Global}
use Rattle.wc_ast.specs.declared.import.Import.{Import}
use Rattle.wc_ast.specs.declared.func.Func as func
use Rattle.wc_ast.specs.declared.limits.Limits.{Limits}
use Rattle.wc_ast.specs.declared.limits.GlobalType.{GlobalType}
use Rattle.wc_ast.specs.declared.func_type.FuncType.{FuncType}
use Rattle.wc_ast.specs.declared.module.Module.{Module}
use Rattle.wc_check.specs.declared.context.Context.{Context}

-- what an import adds to the functions (2.5.11): the index of its type, where it is one
abbrev pub func_of : Desc → List ℕ
func_of (Func t) = t ∷ []
func_of (Table limits) = []
func_of (Memory limits) = []
func_of (Global t) = []

-- what it adds to the tables
abbrev pub table_of : Desc → List Limits
table_of (Func t) = []
table_of (Table limits) = limits ∷ []
table_of (Memory limits) = []
table_of (Global t) = []

-- what it adds to the memories
abbrev pub mem_of : Desc → List Limits
mem_of (Func t) = []
mem_of (Table limits) = []
mem_of (Memory limits) = limits ∷ []
mem_of (Global t) = []

-- what it adds to the globals
abbrev pub global_of : Desc → List GlobalType
global_of (Func t) = []
global_of (Table limits) = []
global_of (Memory limits) = []
global_of (Global t) = t ∷ []

-- the types of the functions that are imported, by their index
abbrev pub imported_funcs : List Import → List ℕ
imported_funcs imports = flat_map (λ i. func_of i.desc) imports

-- the tables that are imported
abbrev pub imported_tables : List Import → List Limits
imported_tables imports = flat_map (λ i. table_of i.desc) imports

-- the memories that are imported
abbrev pub imported_mems : List Import → List Limits
imported_mems imports = flat_map (λ i. mem_of i.desc) imports

-- the globals that are imported
abbrev pub imported_globals : List Import → List GlobalType
imported_globals imports = flat_map (λ i. global_of i.desc) imports

-- the index of each function's type
abbrev pub func_space : Module → List ℕ
func_space m = imported_funcs m.imports ++ map (λ f. f.ty) m.funcs

-- the tables
abbrev pub table_space : Module → List Limits
table_space m = imported_tables m.imports ++ m.tables

-- the memories
abbrev pub mem_space : Module → List Limits
mem_space m = imported_mems m.imports ++ m.mems

-- the type of each global
abbrev pub global_space : Module → List GlobalType
global_space m = imported_globals m.imports ++ map (λ g. g.ty) m.globals

-- what the rules look up (3.1.1)
abbrev pub module_context : Module → Context
module_context m = record {
  types = length m.types;
  funcs = length (func_space m);
  tables = length (table_space m);
  mems = length (mem_space m);
  globals = global_space m;
}

-- how many parameters the type of this index has; none, where there is no such type
abbrev pub param_count : List FuncType → ℕ → ℕ
param_count types n = option_map_or (λ t. length t.params) (slice_get types n) 0

-- how many locals a function has, its parameters first (2.5.3, 3.4.1)
abbrev pub local_count : Module → func.Func → ℕ
local_count m f = param_count m.types f.ty + length f.locals
