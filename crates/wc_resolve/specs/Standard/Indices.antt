-- Indices (Core 1.0, 6.6.1): a number stands for itself, an identifier for the place of what has it.
use Rattle.std.specs.Prelude.{ℕ, List, [], ◌∷◌, map, Option, Some, None}
use Rattle.std.specs.List.{flat_map}
use Rattle.wc_ast.specs.declared.export.ExportKind.{ExportKind}
use Rattle.wc_ast.specs.declared.export.ExportKind.TheVariants as exported
use Rattle.wc_spaces.specs.declared.noted.Fault.{Fault}
use Rattle.wc_surface.specs.declared.id.Index.{Index}
use Rattle.wc_surface.specs.declared.id.Index.TheVariants as index
use Rattle.wc_surface.specs.declared.field.Field.{Field}
use Rattle.wc_resolve_code.specs.declared.why.NameWhy.{NameWhy}
use Rattle.wc_resolve_code.specs.Standard.Contexts.{Declared}
use Rattle.wc_resolve_code.specs.Standard.Operands.{unknown}
use Rattle.wc_declare.specs.declared.kind.SpaceKind.{SpaceKind}
use Rattle.wc_declare.specs.declared.kind.SpaceKind.TheVariants as kind
use Rattle.wc_declare.specs.Standard.Spaces.{space, texts}
use Rattle.wc_declare.specs.Standard.Uses.{named_index}

-- what these fields declare in an index space, each with its identifier or with none
abbrev pub declared_in : SpaceKind → List Field → Declared
declared_in k all = texts (space k all)

-- the index space of what is exported
abbrev pub space_kind : ExportKind → SpaceKind
space_kind exported.Func = kind.Func
space_kind exported.Table = kind.Table
space_kind exported.Memory = kind.Memory
space_kind exported.Global = kind.Global

-- what is wrong with an index: an identifier that nothing has
abbrev pub unknown_index : Declared → Index → List (Fault NameWhy)
unknown_index ds (index.Number token n) = []
unknown_index ds (index.Named id) = unknown ds (Some id)

-- an index that may be left out; it is 0 then (6.6.11, 6.6.12)
abbrev pub index_or_zero : Declared → Option Index → ℕ
index_or_zero ds None = 0
index_or_zero ds (Some i) = named_index ds i

-- what is wrong with an index that may be left out
abbrev pub unknown_in : Declared → Option Index → List (Fault NameWhy)
unknown_in ds None = []
unknown_in ds (Some i) = unknown_index ds i

-- a list of indices
abbrev pub indices_of : Declared → List Index → List ℕ
indices_of ds is = map (named_index ds) is

-- what is wrong with a list of indices
abbrev pub unknown_of : Declared → List Index → List (Fault NameWhy)
unknown_of ds is = flat_map (unknown_index ds) is
