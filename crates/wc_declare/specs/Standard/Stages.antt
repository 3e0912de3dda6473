-- The first two stages in which names are judged: declarations, and then types. All that is wrong is gathered for each,
-- and the fault is that of the first stage that has one, there the one of the least token.
use Rattle.std.specs.Prelude.{false, List, ◌++◌, map, Option, Some, None}
use Rattle.std.specs.List.{flat_map}
use Rattle.wc_resolve_code.specs.declared.why.NameWhy.{NameWhy}
use Rattle.wc_spaces.specs.declared.noted.Fault.{Fault}
use Rattle.wc_spaces.specs.Standard.Least.{least}
use Rattle.wc_surface.specs.Standard.Keys.{key_of}
use Rattle.wc_surface.specs.declared.field.Field.{Field}
use Rattle.wc_declare.specs.declared.kind.SpaceKind.TheVariants as kind
use Rattle.wc_declare.specs.Standard.Spaces.{space, texts, space_faults}
use Rattle.wc_declare.specs.Standard.Order.{late_after, second_after}
use Rattle.wc_declare.specs.Standard.Inner.{inner_faults}
use Rattle.wc_declare.specs.Standard.Types.{types_of, all_uses}
use Rattle.wc_declare.specs.Standard.Uses.{use_faults}

-- what is wrong with declarations
abbrev pub declaration_faults : List Field → List (Fault NameWhy)
declaration_faults fs = space_faults fs ++ (late_after false fs ++ (second_after false fs ++ flat_map inner_faults fs))

-- what is wrong with type uses
abbrev pub all_use_faults : List Field → List (Fault NameWhy)
all_use_faults fs = flat_map (use_faults (texts (space kind.Type fs)) (map key_of (types_of fs))) (all_uses fs)

-- the fault of a stage, or where it has none that of a later one
abbrev pub or_else : Option (Fault NameWhy) → Option (Fault NameWhy) → Option (Fault NameWhy)
or_else None later = later
or_else (Some f) later = Some f

-- the first fault of the two stages
abbrev pub first_fault : List Field → Option (Fault NameWhy)
first_fault fs = or_else (least (declaration_faults fs)) (least (all_use_faults fs))
