use Rattle.std.proofs.Common.{ℕ, List, Option, drop}
use Rattle.wc_spaces.specs.Standard.Least.{least_from}
use Rattle.wc_declare.specs.Standard.Spaces.{repeated_after}
use Rattle.wc_declare.specs.Standard.Inner.{param_ids}
use Rattle.wc_declare.specs.Kept.Seen.{HaveNames}
use Rattle.wc_declare.proofs.Adding.{Adding}
use Rattle.wc_declare.proofs.inner.note_params.Given as goal

abbrev pub invariant-loop-name : goal.invariant-loop-name
invariant-loop-name l = (ds : List (Option (List ℕ))) → HaveNames ds l.initial.seen
    → Adding (λ (x : List (Option (List ℕ))). HaveNames x l.seen) ds
    (least_from l.initial.noted.first (repeated_after ds (param_ids l.names)))
    l.noted.first (param_ids l.names) (param_ids (drop l.name-index l.names))
