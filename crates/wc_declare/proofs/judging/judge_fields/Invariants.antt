use Rattle.std.proofs.Common.{◌≡◌, ℕ, List, Option, drop}
use Rattle.std.specs.List.{flat_map}
use Rattle.wc_spaces.specs.Standard.Least.{least_from}
use Rattle.wc_spaces.specs.Kept.Spaces.{IsSpace}
use Rattle.wc_spaces.specs.Kept.Types.{AreTypes}
use Rattle.wc_declare.specs.Standard.Types.{all_uses}
use Rattle.wc_declare.specs.Standard.Uses.{use_faults}
use Rattle.wc_declare.proofs.judging.judge_fields.Given as goal

abbrev pub invariant-loop-field : goal.invariant-loop-field
invariant-loop-field l = (ds : List (Option (List ℕ))) (ts : List (List ℕ)) → IsSpace ds l.ids → AreTypes ts l.types
    → least_from l.noted.first (flat_map (use_faults ds ts) (all_uses (drop l.field-index l.fields)))
    ≡ least_from l.initial.noted.first (flat_map (use_faults ds ts) (all_uses l.fields))
