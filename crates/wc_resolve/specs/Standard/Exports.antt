-- Exports (Core 1.0, 6.6.9), in the order of the text: those that stand inside fields are of what the field declares.
use Rattle.std.specs.Prelude.{ℕ, List, [], ◌∷◌, map}
use Rattle.std.specs.List.{flat_map}
use Rattle.wc_ast.specs.declared.export.Export.{Export}
use Rattle.wc_ast.specs.declared.export.ExportKind.{ExportKind}
use Rattle.wc_ast.specs.declared.export.ExportKind.TheVariants as exported
use Rattle.wc_spaces.specs.declared.noted.Fault.{Fault}
use Rattle.wc_surface.specs.declared.field.Field.{Field}
use Rattle.wc_surface.specs.declared.field.Field.TheVariants as field
use Rattle.wc_resolve_code.specs.declared.why.NameWhy.{NameWhy}
use Rattle.wc_declare.specs.Standard.Uses.{named_index}
use Rattle.wc_resolve.specs.declared.counts.Counts.{Counts}
use Rattle.wc_resolve.specs.Standard.Counts.{no_counts, along}
use Rattle.wc_resolve.specs.Standard.Indices.{declared_in, space_kind, unknown_index}

-- the export under this name of what has this index in an index space
abbrev pub export : ExportKind → ℕ → List ℕ → Export
export kind index name = record { name = name; kind = kind; index = index }

-- the same under each of these names
abbrev pub exported_as : ExportKind → ℕ → List (List ℕ) → List Export
exported_as kind index names = map (export kind index) names

-- the exports of a field of `all`, where so many are declared before it
abbrev pub field_exports : List Field → Counts → Field → List Export
field_exports all c (field.Func f) = exported_as exported.Func c.funcs f.exports
field_exports all c (field.Table f) = exported_as exported.Table c.tables f.exports
field_exports all c (field.Memory f) = exported_as exported.Memory c.memories f.exports
field_exports all c (field.Global f) = exported_as exported.Global c.globals f.exports
field_exports all c (field.Export f) =
    export f.kind (named_index (declared_in (space_kind f.kind) all) f.index) f.name ∷ []
field_exports all c _ = []

-- the exports of a text
abbrev pub exports_of : List Field → List Export
exports_of all = along (field_exports all) no_counts all

-- what is wrong with the index of an export
abbrev pub export_faults : List Field → Field → List (Fault NameWhy)
export_faults all (field.Export f) = unknown_index (declared_in (space_kind f.kind) all) f.index
export_faults all _ = []

-- the same of all fields
abbrev pub all_export_faults : List Field → List (Fault NameWhy)
all_export_faults all = flat_map (export_faults all) all
