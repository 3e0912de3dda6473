use Rattle.std.proofs.Common.{◌≡◌, ℕ, List, Option, drop}
use Rattle.std.specs.List.{flat_map}
use Rattle.wc_spaces.specs.Standard.Least.{least_from}
use Rattle.wc_spaces.specs.Kept.Spaces.{IsSpace}
use Rattle.wc_spaces.specs.Kept.Types.{AreTypes}
use Rattle.wc_declare.specs.Standard.Uses.{use_faults}
use Rattle.wc_declare.proofs.judging.judge_uses.Given as goal

abbrev pub invariant-loop-used : goal.invariant-loop-used
invariant-loop-used l = (ds : List (Option (List ℕ))) (ts : List (List ℕ)) → IsSpace ds l.ids → AreTypes ts l.types
    → least_from l.noted.first (flat_map (use_faults ds ts) (drop l.used-index l.uses))
    ≡ least_from l.initial.noted.first (flat_map (use_faults ds ts) l.uses)
