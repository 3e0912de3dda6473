-- The module that the fields of a text denote, and the first fault of their names (Core 1.0, 6.6.13). Names are judged
-- in three stages: declarations, types, and then what instructions, exports, the start function and segments name. Of
-- the first stage with a fault the one of the least token counts.
use Rattle.std.specs.Prelude.{◌≡◌, ℕ, List, ◌++◌, Option, Some, None}
use Rattle.wc_ast.specs.declared.module.Module.{Module}
use Rattle.wc_spaces.specs.declared.noted.Fault.{Fault}
use Rattle.wc_spaces.specs.Standard.Least.{least}
use Rattle.wc_surface.specs.declared.field.Field.{Field}
use Rattle.wc_resolve_code.specs.declared.why.NameWhy.{NameWhy}
use Rattle.wc_declare.specs.Standard.Types.{types_of}
use Rattle.wc_declare.specs.Standard.Stages.{or_else}
use Rattle.wc_declare.specs.Standard.Stages as declared
use Rattle.wc_resolve.specs.Standard.Imports.{imports_of}
use Rattle.wc_resolve.specs.Standard.Funcs.{funcs_of, all_func_faults}
use Rattle.wc_resolve.specs.Standard.Ranges.{tables_of, memories_of}
use Rattle.wc_resolve.specs.Standard.Globals.{globals_of, all_global_faults}
use Rattle.wc_resolve.specs.Standard.Exports.{exports_of, all_export_faults}
use Rattle.wc_resolve.specs.Standard.Start.{start_of, all_start_faults}
use Rattle.wc_resolve.specs.Standard.Segments.{elems_of, datas_of, all_elem_faults, all_data_faults}

-- list by list, each in the order of the text
abbrev pub denoted : List Field → Module
denoted all = record {
  types = types_of all;
  imports = imports_of all;
  funcs = funcs_of all;
  tables = tables_of all;
  mems = memories_of all;
  globals = globals_of all;
  exports = exports_of all;
  start = start_of all;
  elems = elems_of all;
  datas = datas_of all;
}

-- what is wrong in the third stage
abbrev pub reference_faults : List Field → List (Fault NameWhy)
reference_faults all = all_global_faults all ++ (all_export_faults all ++ (all_start_faults all
    ++ (all_elem_faults all ++ (all_data_faults all ++ all_func_faults all))))

-- the first fault of the three stages
abbrev pub first_fault : List Field → Option (Fault NameWhy)
first_fault all = or_else (declared.first_fault all) (least (reference_faults all))

-- the fault of these fields is this one
abbrev pub FirstFault : List Field → ℕ → NameWhy → Type 0
FirstFault all token why = first_fault all ≡ Some (record { token = token; why = why })

-- these fields denote this module
pub record Names (all : List Field) (module_of : Module) : Type 0 where
  pub right : first_fault all ≡ None
  pub same : module_of ≡ denoted all
