-- Index spaces (Core 1.0, 6.6.1 and 6.6.13): what fields declare in each, in the order of the text.
use Rattle.std.specs.Prelude.{List, [], ◌∷◌, ◌++◌, map, Option, option_map}
use Rattle.std.specs.List.{flat_map}
use Rattle.wc_ast.specs.declared.export.ExportKind.{ExportKind}
use Rattle.wc_ast.specs.declared.export.ExportKind.TheVariants as kind
use Rattle.wc_spaces.specs.Standard.Spaces.{duplicates_after}
use Rattle.wc_resolve_code.specs.declared.why.NameWhy.TheVariants.{DuplicateId}
use Rattle.wc_surface.specs.Standard.Identifiers.{Identifier}
use Rattle.wc_surface.specs.Standard.Written.Fields.{Desc, Field, type_field, import_field, func_field, table_field}
use Rattle.wc_surface.specs.Standard.Written.Fields.{memory_field, global_field}
use Rattle.wc_meaning.specs.Standard.Contexts.{Space, Faults}

-- what an import with this identifier, or with none, declares among functions, tables, memories or globals (6.6.4)
abbrev pub brings : ExportKind → Desc → Option Identifier → Space
brings kind.Func (Desc.func u) i = i ∷ []
brings kind.Table (Desc.table l) i = i ∷ []
brings kind.Memory (Desc.memory l) i = i ∷ []
brings kind.Global (Desc.global g) i = i ∷ []
brings _ _ i = []

-- what a field declares among these (6.6.4 to 6.6.8)
abbrev pub declares : ExportKind → Field → Space
declares k (import_field m i d) = brings k d i
declares kind.Func (func_field token d f) = d.id ∷ []
declares kind.Table (table_field d t) = d.id ∷ []
declares kind.Memory (memory_field d m) = d.id ∷ []
declares kind.Global (global_field d g) = d.id ∷ []
declares _ _ = []

-- the index space of functions, of tables, of memories or of globals (6.6.13)
abbrev pub space : ExportKind → List Field → Space
space k fs = flat_map (declares k) fs

-- what a field declares among types (6.6.2)
abbrev pub declares_type : Field → Space
declares_type (type_field i s) = i ∷ []
declares_type _ = []

-- the index space of types (6.6.13)
abbrev pub type_space : List Field → Space
type_space fs = flat_map declares_type fs

-- what has an identifier that something before it in the same index space has (6.1.3)
abbrev pub repeated : Space → Faults
repeated declared = duplicates_after DuplicateId [] (map (option_map (λ i. (i.token, i.text))) declared)

-- the same in each index space of a text
abbrev pub space_faults : List Field → Faults
space_faults fs = repeated (type_space fs) ++ (repeated (space kind.Func fs) ++ (repeated (space kind.Table fs)
    ++ (repeated (space kind.Memory fs) ++ repeated (space kind.Global fs))))
