-- Which fault is told.
use Rattle.std.specs.Prelude.{◌≡◌, ⊤, List, Option, Some}
use Rattle.wc_spaces.specs.declared.noted.Fault.{Fault}
use Rattle.wc_surface.specs.declared.field.Field.{Field}
use Rattle.wc_resolve_code.specs.declared.why.NameWhy.{NameWhy}
use Rattle.wc_declare.specs.declared.fault.NameFault.{NameFault}
use Rattle.wc_declare.specs.declared.fault.NameFault.TheVariants.{Bad, Memory}
use Rattle.wc_resolve.specs.Standard.Denoted.{FirstFault}

-- the fault is this one; want of memory says nothing
abbrev pub IsTold : Option (Fault NameWhy) → NameFault → Type 0
IsTold first (Bad token why) = first ≡ Some (record { token = token; why = why })
IsTold first Memory = ⊤

-- the fault is the first of these fields; want of memory says nothing
abbrev pub IsFirst : List Field → NameFault → Type 0
IsFirst all (Bad token why) = FirstFault all token why
IsFirst all Memory = ⊤
