use Rattle.std.proofs.Common.{ℕ, List, Option, drop}
use Rattle.wc_spaces.specs.Standard.Least.{least_from}
use Rattle.wc_surface.specs.Standard.WrittenLocals.{written_out}
use Rattle.wc_declare.specs.Standard.Spaces.{repeated_after}
use Rattle.wc_declare.specs.Standard.Inner.{local_ids}
use Rattle.wc_declare.specs.Kept.Seen.{HaveNames}
use Rattle.wc_declare.proofs.Adding.{Adding}
use Rattle.wc_declare.proofs.inner.note_locals.Given as goal

abbrev pub invariant-loop-group : goal.invariant-loop-group
invariant-loop-group l = (ds : List (Option (List ℕ))) → HaveNames ds l.initial.seen
    → Adding (λ (x : List (Option (List ℕ))). HaveNames x l.seen) ds
    (least_from l.initial.noted.first (repeated_after ds (local_ids (written_out l.groups))))
    l.noted.first (local_ids (written_out l.groups)) (local_ids (written_out (drop l.group-index l.groups)))
