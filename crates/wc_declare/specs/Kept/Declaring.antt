-- What is declared.
use Rattle.std.specs.Prelude.{◌≡◌, ⊤, List, map, Option, Some}
use Rattle.wc_spaces.specs.Kept.Spaces.{IsSpace}
use Rattle.wc_spaces.specs.Kept.Types.{AreTypes}
use Rattle.wc_resolve_code.specs.declared.why.NameWhy.{NameWhy}
use Rattle.wc_spaces.specs.declared.noted.Fault.{Fault}
use Rattle.wc_surface.specs.Standard.Keys.{key_of}
use Rattle.wc_surface.specs.declared.field.Field.{Field}
use Rattle.wc_declare.specs.declared.kind.SpaceKind.TheVariants as kind
use Rattle.wc_declare.specs.declared.declared.Spaces.{Spaces}
use Rattle.wc_declare.specs.declared.declared.Declared.{Declared}
use Rattle.wc_declare.specs.declared.fault.NameFault.{NameFault}
use Rattle.wc_declare.specs.declared.fault.NameFault.TheVariants.{Bad, Memory}
use Rattle.wc_declare.specs.Standard.Spaces.{space, texts}
use Rattle.wc_declare.specs.Standard.Types.{types_of}
use Rattle.wc_declare.specs.Standard.Stages.{first_fault}

-- the index spaces of these fields
pub record AreSpaces (fs : List Field) (spaces : Spaces) : Type 0 where
  pub types : IsSpace (texts (space kind.Type fs)) spaces.types
  pub funcs : IsSpace (texts (space kind.Func fs)) spaces.funcs
  pub tables : IsSpace (texts (space kind.Table fs)) spaces.tables
  pub memories : IsSpace (texts (space kind.Memory fs)) spaces.memories
  pub globals : IsSpace (texts (space kind.Global fs)) spaces.globals

-- what these fields declare
pub record IsDeclared (fs : List Field) (declared : Declared) : Type 0 where
  pub spaces : AreSpaces fs declared.spaces
  pub types : AreTypes (map key_of (types_of fs)) declared.types

-- the fault is the first of these fields; want of memory says nothing
abbrev pub IsFault : List Field → NameFault → Type 0
IsFault fs (Bad token why) = first_fault fs ≡ Some (record { token = token; why = why })
IsFault fs Memory = ⊤

-- the fault is the one that is noted
abbrev pub IsNoted : Option (Fault NameWhy) → NameFault → Type 0
IsNoted noted (Bad token why) = noted ≡ Some (record { token = token; why = why })
IsNoted noted Memory = ⊥
