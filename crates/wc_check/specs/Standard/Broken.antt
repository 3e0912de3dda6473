-- What a module breaks (Core 1.0, 3.4): all pairs of an item and a rule that it breaks.
use Rattle.std.specs.Prelude.{ℕ, Bool, false, not, ◌||◌, nat_lt, nat_le, List, [], ◌++◌, length, take, slice_get}
use Rattle.std.specs.Prelude.{Option, Some, None}
use Rattle.std.specs.Option.{option_map_or, option_and_then}
use Rattle.wc_ast.specs.declared.func_type.FuncType.{FuncType}
use Rattle.wc_ast.specs.declared.import.Import.{Import}
use Rattle.wc_ast.specs.declared.func.Func as func
use Rattle.wc_ast.specs.declared.func.Global as global
use Rattle.wc_ast.specs.declared.export.Export.{Export}
use Rattle.wc_ast.specs.declared.segment.Elem.{Elem}
use Rattle.wc_ast.specs.declared.segment.Data.{Data}
use Rattle.wc_ast.specs.declared.module.Module.{Module}
use Rattle.wc_check.specs.declared.fault.Item.{Item}
use Rattle.wc_check.specs.declared.fault.Item.TheVariants as items
use Rattle.wc_check.specs.declared.fault.CheckWhy.{CheckWhy}
use Rattle.wc_check.specs.declared.fault.CheckWhy.TheVariants as whys
use Rattle.wc_check.specs.Standard.Rules.{rule, at, each}
use Rattle.wc_check.specs.Standard.Spaces.{imported_funcs, imported_tables, imported_mems, imported_globals, func_space}
use Rattle.wc_check.specs.Standard.Spaces.{module_context, local_count}
use Rattle.wc_check.specs.Standard.SizeRules.{import_rules, broken_table, broken_mem}
use Rattle.wc_check.specs.Standard.InstructionRules.{broken_in_body}
use Rattle.wc_check.specs.Standard.ConstantRules.{is_constant}
use Rattle.wc_check.specs.Standard.ExportRules.{export_rules}
use Rattle.wc_check.specs.Standard.SegmentRules.{elem_rules, data_rules}

-- an import, by its place (3.4.9)
abbrev pub broken_import : Module → ℕ → Import → List (Item × CheckWhy)
broken_import m n i =
    let tables = length (imported_tables (take n m.imports)) in
    let mems = length (imported_mems (take n m.imports)) in
    at (items.Import n) (import_rules (length m.types) tables mems i.desc)

-- a function, by its index, and then its instructions (3.4.1)
abbrev pub broken_func : Module → ℕ → func.Func → List (Item × CheckWhy)
broken_func m index f =
    at (items.Func index) (rule whys.TypeIndex (nat_le (length m.types) f.ty))
    ++ broken_in_body (module_context m) (local_count m f) index f.body

-- a global, by its index: its first value may read imported globals alone (3.4.4, 3.4.10)
abbrev pub broken_global : Module → ℕ → global.Global → List (Item × CheckWhy)
broken_global m index g =
    at (items.Global index) (rule whys.Constant (not (is_constant (imported_globals m.imports) g.ty.ty g.init)))

-- an export, by its place (3.4.8)
abbrev pub broken_export : Module → ℕ → Export → List (Item × CheckWhy)
broken_export m n e = at (items.Export n) (export_rules (module_context m) (take n m.exports) e)

-- the type of the function of this index, where there are both
abbrev pub func_type : Module → ℕ → Option FuncType
func_type m index = option_and_then (λ t. slice_get m.types t) (slice_get (func_space m) index)

-- it has parameters or results
abbrev pub has_values : FuncType → Bool
has_values t = nat_lt 0 (length t.params) || nat_lt 0 (length t.results)

-- of the start function, where there is one (3.4.7)
abbrev pub start_rules : Module → Option ℕ → List CheckWhy
start_rules m None = []
start_rules m (Some index) =
    rule whys.Index (nat_le (length (func_space m)) index)
    ++ rule whys.StartType (option_map_or has_values (func_type m index) false)

-- an element segment, by its place (3.4.5)
abbrev pub broken_elem : Module → ℕ → Elem → List (Item × CheckWhy)
broken_elem m n e = at (items.Elem n) (elem_rules (module_context m) e)

-- a data segment, by its place (3.4.6)
abbrev pub broken_data : Module → ℕ → Data → List (Item × CheckWhy)
broken_data m n d = at (items.Data n) (data_rules (module_context m) d)

-- imports, functions, tables, memories and globals
abbrev pub broken_in_spaces : Module → List (Item × CheckWhy)
broken_in_spaces m =
    each (broken_import m) 0 m.imports
    ++ (each (broken_func m) (length (imported_funcs m.imports)) m.funcs
    ++ (each broken_table (length (imported_tables m.imports)) m.tables
    ++ (each broken_mem (length (imported_mems m.imports)) m.mems
    ++ each (broken_global m) (length (imported_globals m.imports)) m.globals)))

-- the start function and the segments
abbrev pub broken_at_start : Module → List (Item × CheckWhy)
broken_at_start m =
    at items.Start (start_rules m m.start) ++ (each (broken_elem m) 0 m.elems ++ each (broken_data m) 0 m.datas)

-- what a module breaks, item by item; a function type breaks nothing
abbrev pub broken : Module → List (Item × CheckWhy)
broken m = broken_in_spaces m ++ (each (broken_export m) 0 m.exports ++ broken_at_start m)
