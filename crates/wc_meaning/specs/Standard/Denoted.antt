-- The module that the fields of a text denote, and the first fault of their names (Core 1.0, 6.6.13). Names are judged
-- in three stages: declarations, type uses, and then what instructions, exports, the start function and segments name.
-- Of the first stage with a fault the one of the least token counts.
use Rattle.std.specs.Prelude.{◌≡◌, ℕ, List, [], ◌++◌, Option, Some, None}
use Rattle.std.specs.List.{flat_map}
use Rattle.std.specs.Option.{option_or}
use Rattle.wc_ast.specs.declared.module.Module.{Module}
use Rattle.wc_ast.specs.declared.export.ExportKind.TheVariants as kind
use Rattle.wc_spaces.specs.declared.noted.Fault.{Fault}
use Rattle.wc_spaces.specs.Standard.Least.{least}
use Rattle.wc_resolve_code.specs.declared.why.NameWhy.{NameWhy}
use Rattle.wc_surface.specs.Standard.Written.Fields.{Field}
use Rattle.wc_meaning.specs.Standard.Contexts.{Context, Faults}
use Rattle.wc_meaning.specs.Standard.Spaces.{space, type_space, space_faults}
use Rattle.wc_meaning.specs.Standard.Gathered.{all_uses, types_of}
use Rattle.wc_meaning.specs.Standard.Uses.{use_faults}
use Rattle.wc_meaning.specs.Standard.Order.{late_imports, second_starts}
use Rattle.wc_meaning.specs.Standard.Functions.{field_funcs, func_faults, field_globals, global_faults}
use Rattle.wc_meaning.specs.Standard.Inner.{inner_faults}
use Rattle.wc_meaning.specs.Standard.Imports.{field_imports}
use Rattle.wc_meaning.specs.Standard.Exports.{along, field_exports, export_faults, start_of, start_faults}
use Rattle.wc_meaning.specs.Standard.Ranges.{field_tables, field_memories}
use Rattle.wc_meaning.specs.Standard.Segments.{field_elems, elem_faults, field_datas, data_faults}

-- the context of a text, outside its functions (6.6.13)
abbrev pub context_of : List Field → Context
context_of fs = record {
  types = type_space fs;
  funcs = space kind.Func fs;
  tables = space kind.Table fs;
  mems = space kind.Memory fs;
  globals = space kind.Global fs;
  locals = [];
  labels = [];
  typedefs = types_of fs;
}

-- the module of the fields of a text, list by list, each in the order of the text (6.6.13)
abbrev pub denoted_in : Context → List Field → Module
denoted_in c fs = record {
  types = c.typedefs;
  imports = flat_map (field_imports c) fs;
  funcs = flat_map (field_funcs c) fs;
  tables = flat_map field_tables fs;
  mems = flat_map field_memories fs;
  globals = flat_map (field_globals c) fs;
  exports = along (field_exports c) [] fs;
  start = start_of c fs;
  elems = along (field_elems c) [] fs;
  datas = along (field_datas c) [] fs;
}

-- what is wrong with declarations
abbrev pub declaration_faults : List Field → Faults
declaration_faults fs = space_faults fs ++ (late_imports fs ++ (second_starts fs ++ flat_map inner_faults fs))

-- what is wrong with type uses
abbrev pub all_use_faults : Context → List Field → Faults
all_use_faults c fs = flat_map (use_faults c) (all_uses fs)

-- what is wrong with all else that is named
abbrev pub reference_faults : Context → List Field → Faults
reference_faults c fs = flat_map (global_faults c) fs ++ (flat_map (export_faults c) fs ++ (flat_map (start_faults c) fs
    ++ (flat_map (elem_faults c) fs ++ (flat_map (data_faults c) fs ++ flat_map (func_faults c) fs))))

-- the first fault of the three stages: that of a stage, or where it has none that of a later one
abbrev pub first_fault : List Field → Option (Fault NameWhy)
first_fault fs = option_or (least (declaration_faults fs))
    (option_or (least (all_use_faults (context_of fs) fs)) (least (reference_faults (context_of fs) fs)))

-- the fault of these fields is this one
abbrev pub FirstFault : List Field → ℕ → NameWhy → Type 0
FirstFault fs token why = first_fault fs ≡ Some (record { token = token; why = why })

-- these fields denote this module
pub record Means (fs : List Field) (module_of : Module) : Type 0 where
  pub right : first_fault fs ≡ None
  pub same : module_of ≡ denoted_in (context_of fs) fs
