-- Imports stand before definitions, and there is one start function at most (Core 1.0, 6.6.13).
use Rattle.std.specs.Prelude.{ℕ, Bool, true, false, List, [], ◌∷◌, drop, if◌then◌else◌}
use Rattle.std.specs.List.{flat_map}
use Rattle.wc_resolve_code.specs.declared.why.NameWhy.TheVariants.{LateImport, SecondStart}
use Rattle.wc_surface.specs.Standard.Written.Indices.{Index}
use Rattle.wc_surface.specs.Standard.Written.Fields.{Import, Desc, Function, Table, Memory, Global, Field}
use Rattle.wc_surface.specs.Standard.Written.Fields.{import_field, func_field, table_field, memory_field, global_field}
use Rattle.wc_surface.specs.Standard.Written.Fields.{start_field}
use Rattle.wc_meaning.specs.Standard.Contexts.{Faults, fault}

-- the import that a field is, where it is one: an import inside another field is the same as one of its own (6.6.4 to
-- 6.6.8)
abbrev pub imports_in : Field → List (Import × Desc)
imports_in (import_field m i d) = (m, d) ∷ []
imports_in (func_field token d (Function.imported m u)) = (m, Desc.func u) ∷ []
imports_in (table_field d (Table.imported m l)) = (m, Desc.table l) ∷ []
imports_in (memory_field d (Memory.imported m l)) = (m, Desc.memory l) ∷ []
imports_in (global_field d (Global.imported m g)) = (m, Desc.global g) ∷ []
imports_in _ = []

-- it is a function, a table, a memory or a global, and no import (6.6.13)
abbrev pub defines : Field → Bool
defines (func_field token d (Function.code u ls c)) = true
defines (table_field d (Table.limits l)) = true
defines (table_field d (Table.elements xs)) = true
defines (memory_field d (Memory.limits l)) = true
defines (memory_field d (Memory.bytes bytes)) = true
defines (global_field d (Global.init g c)) = true
defines _ = false

-- the fields behind the first one that is
abbrev pub behind_definition : List Field → List Field
behind_definition [] = []
behind_definition (f ∷ fs) = if defines f then fs else behind_definition fs

-- each import that stands there (6.6.13)
abbrev pub late_imports : List Field → Faults
late_imports fs = flat_map (λ m. fault m.0.token LateImport) (flat_map imports_in (behind_definition fs))

-- the number of the word of a start field, and its index (6.6.10)
abbrev pub starts_in : Field → List (ℕ × Index)
starts_in (start_field token x) = (token, x) ∷ []
starts_in _ = []

-- the start functions of a text
abbrev pub starts : List Field → List (ℕ × Index)
starts fs = flat_map starts_in fs

-- each of them but the first (6.6.13)
abbrev pub second_starts : List Field → Faults
second_starts fs = flat_map (λ s. fault s.0 SecondStart) (drop 1 (starts fs))
