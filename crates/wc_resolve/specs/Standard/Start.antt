-- The start function (Core 1.0, 6.6.10).
use Rattle.std.specs.Prelude.{ℕ, List, [], ◌∷◌, Option, Some, None}
use Rattle.std.specs.List.{flat_map}
use Rattle.wc_spaces.specs.declared.noted.Fault.{Fault}
use Rattle.wc_surface.specs.declared.field.Field.{Field}
use Rattle.wc_surface.specs.declared.field.Field.TheVariants as field
use Rattle.wc_resolve_code.specs.declared.why.NameWhy.{NameWhy}
use Rattle.wc_declare.specs.declared.kind.SpaceKind.TheVariants as kind
use Rattle.wc_declare.specs.Standard.Uses.{named_index}
use Rattle.wc_resolve.specs.Standard.Indices.{declared_in, unknown_index}

-- what is known of it behind a field
abbrev pub start_after : List Field → Option ℕ → Field → Option ℕ
start_after all known (field.Start f) = Some (named_index (declared_in kind.Func all) f.index)
start_after all known _ = known

-- the last one that fields name, where one was known before; two are a fault of declarations
abbrev pub start_from : List Field → Option ℕ → List Field → Option ℕ
start_from all known [] = known
start_from all known (f ∷ fs) = start_from all (start_after all known f) fs

-- the start function of a text, where there is one
abbrev pub start_of : List Field → Option ℕ
start_of all = start_from all None all

-- what is wrong with the index of a start function
abbrev pub start_faults : List Field → Field → List (Fault NameWhy)
start_faults all (field.Start f) = unknown_index (declared_in kind.Func all) f.index
start_faults all _ = []

-- the same of all fields
abbrev pub all_start_faults : List Field → List (Fault NameWhy)
all_start_faults all = flat_map (start_faults all) all
