-- The fault of the least token. All faults of a stage are gathered in a list, in whatever order.
use Rattle.std.specs.Prelude.{nat_le, List, [], ◌∷◌, Option, Some, None, if◌then◌else◌}
use Rattle.wc_spaces.specs.declared.noted.Fault.{Fault}

-- the one of the smaller token; of two at one token the first
abbrev pub earlier : {W : Type 0} → Option (Fault W) → Fault W → Option (Fault W)
earlier None f = Some f
earlier (Some g) f = if nat_le g.token f.token then Some g else Some f

-- the least of these and of one that is known
abbrev pub least_from : {W : Type 0} → Option (Fault W) → List (Fault W) → Option (Fault W)
least_from known [] = known
least_from known (f ∷ fs) = least_from (earlier known f) fs

-- the fault of the least token of these, where there is any
abbrev pub least : {W : Type 0} → List (Fault W) → Option (Fault W)
least fs = least_from None fs
