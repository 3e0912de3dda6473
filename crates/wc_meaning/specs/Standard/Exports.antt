-- Exports and the start function (Core 1.0, 6.6.9 and 6.6.10). An export that stands inside a field is of what the
-- field declares, whose index is the number of those that are declared before (6.6.5 to 6.6.8).
use Rattle.std.specs.Prelude.{ℕ, List, [], ◌∷◌, ◌++◌, map, length, Option, option_map, slice_get}
use Rattle.wc_ast.specs.declared.export.Export.{Export}
use Rattle.wc_ast.specs.declared.export.ExportKind.{ExportKind}
use Rattle.wc_ast.specs.declared.export.ExportKind.TheVariants as kind
use Rattle.wc_surface.specs.Standard.Written.Fields.{Field, func_field, table_field, memory_field, global_field}
use Rattle.wc_surface.specs.Standard.Written.Fields.{export_field, start_field}
use Rattle.wc_meaning.specs.Standard.Contexts.{Space, Context, Faults, index_in, index_faults}
use Rattle.wc_meaning.specs.Standard.Spaces.{space}
use Rattle.wc_meaning.specs.Standard.Order.{starts}

-- the index space of what is exported (6.6.9)
abbrev pub exported : Context → ExportKind → Space
exported c kind.Func = c.funcs
exported c kind.Table = c.tables
exported c kind.Memory = c.mems
exported c kind.Global = c.globals

-- the index of the next one behind these fields (6.6.1)
abbrev pub next_index : ExportKind → List Field → ℕ
next_index k before = length (space k before)

-- what each field gives, in their order, knowing the fields before it
abbrev pub along : {X : Type 0} → (List Field → Field → List X) → List Field → List Field → List X
along g before [] = []
along g before (f ∷ fs) = g before f ++ along g (before ++ f ∷ []) fs

-- the export of this index under this name
abbrev pub export : ExportKind → ℕ → List ℕ → Export
export k index name = record { name = name; kind = k; index = index }

-- the exports of a field, behind these fields (6.6.5 to 6.6.9)
abbrev pub field_exports : Context → List Field → Field → List Export
field_exports c before (func_field token d f) = map (export kind.Func (next_index kind.Func before)) d.exports
field_exports c before (table_field d t) = map (export kind.Table (next_index kind.Table before)) d.exports
field_exports c before (memory_field d m) = map (export kind.Memory (next_index kind.Memory before)) d.exports
field_exports c before (global_field d g) = map (export kind.Global (next_index kind.Global before)) d.exports
field_exports c before (export_field name k x) = export k (index_in (exported c k) x) name ∷ []
field_exports c before _ = []

-- what is wrong with the index of an export (6.6.9)
abbrev pub export_faults : Context → Field → Faults
export_faults c (export_field name k x) = index_faults (exported c k) x
export_faults c _ = []

-- the index of the start function, where there is one: a second one is a fault (6.6.10)
abbrev pub start_of : Context → List Field → Option ℕ
start_of c fs = option_map (λ s. index_in c.funcs s.1) (slice_get (starts fs) 0)

-- what is wrong with its index
abbrev pub start_faults : Context → Field → Faults
start_faults c (start_field token x) = index_faults c.funcs x
start_faults c _ = []
