-- Imports behind definitions, and start functions behind another.
use Rattle.std.proofs.Common.{◌≡◌, ℕ, Bool, true, false, List, [], ◌∷◌, map, refl, sym, ap, ◌∙◌}
use Rattle.std.proofs.lemmas.Grind.{flat_map-append}
use Rattle.std.specs.Prelude.{if◌then◌else◌}
use Rattle.std.specs.List.{flat_map}
use Rattle.wc_resolve_code.specs.declared.why.NameWhy.TheVariants.{LateImport, SecondStart}
use Rattle.wc_surface.specs.Standard.Written.Indices.{Index}
use Rattle.wc_surface.specs.Standard.Written.Fields.{Import, Desc, Function, Table, Memory, Global, Field}
use Rattle.wc_surface.specs.Standard.Written.Fields.{func_field, table_field, memory_field, global_field, start_field}
use Rattle.wc_parse_field.specs.Stored.Fields.{field_as}
use Rattle.wc_declare.specs.Standard.Order as old
use Rattle.wc_meaning.specs.Standard.Contexts.{Faults, fault}
use Rattle.wc_meaning.specs.Standard.Order.{imports_in, defines, behind_definition, late_imports, starts_in, starts}
use Rattle.wc_meaning.specs.Standard.Order.{second_starts}
use Rattle.wc_meaning.proofs.Lists.{both}

-- an import that is late, and a start that is a second one
abbrev late : Import × Desc → Faults
late m = fault m.0.token LateImport

abbrev second : ℕ × Index → Faults
second s = fault s.0 SecondStart

late-one : (f : Field) → old.late true (old.sort_of (field_as f)) ≡ flat_map late (imports_in f)
late-one (func_field token d (Function.imported m u)) = refl
late-one (table_field d (Table.imported m l)) = refl
late-one (memory_field d (Memory.imported m l)) = refl
late-one (global_field d (Global.imported m g)) = refl
late-one _ = refl

late-seen : (fs : List Field) → old.late_after true (map field_as fs) ≡ flat_map late (flat_map imports_in fs)
late-seen [] = refl
late-seen (f ∷ fs) =
    both (late-one f) (late-seen fs) ∙ sym (flat_map-append late (imports_in f) (flat_map imports_in fs))

defines-one : (f : Field) → old.defines (old.sort_of (field_as f)) ≡ defines f
defines-one (func_field token d (Function.imported m u)) = refl
defines-one (table_field d (Table.imported m l)) = refl
defines-one (memory_field d (Memory.imported m l)) = refl
defines-one (global_field d (Global.imported m g)) = refl
defines-one _ = refl

pub late-stored : (fs : List Field) → old.late_after false (map field_as fs) ≡ late_imports fs
late-stored [] = refl
late-stored (f ∷ fs) =
    ap (λ (b : Bool). old.late_after b (map field_as fs)) (defines-one f)
    ∙ elim (defines f) as (λ b. old.late_after b (map field_as fs)
    ≡ flat_map late (flat_map imports_in (if b then fs else behind_definition fs))) [
      | true ↦ late-seen fs
      | false ↦ late-stored fs
    ]

second-one : (f : Field) → old.second true (old.sort_of (field_as f)) ≡ flat_map second (starts_in f)
second-one (func_field token d (Function.imported m u)) = refl
second-one (table_field d (Table.imported m l)) = refl
second-one (memory_field d (Memory.imported m l)) = refl
second-one (global_field d (Global.imported m g)) = refl
second-one _ = refl

second-seen : (fs : List Field) → old.second_after true (map field_as fs) ≡ flat_map second (starts fs)
second-seen [] = refl
second-seen (f ∷ fs) =
    both (second-one f) (second-seen fs) ∙ sym (flat_map-append second (starts_in f) (starts fs))

pub second-stored : (fs : List Field) → old.second_after false (map field_as fs) ≡ second_starts fs
second-stored [] = refl
second-stored (start_field token x ∷ fs) = second-seen fs
second-stored (func_field token d (Function.imported m u) ∷ fs) = second-stored fs
second-stored (table_field d (Table.imported m l) ∷ fs) = second-stored fs
second-stored (memory_field d (Memory.imported m l) ∷ fs) = second-stored fs
second-stored (global_field d (Global.imported m g) ∷ fs) = second-stored fs
second-stored (_ ∷ fs) = second-stored fs
