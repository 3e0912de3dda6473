use Rattle.std.proofs.Common.{ℕ, ◌-◌, List, Option}
use Rattle.wc_spaces.specs.Standard.Least.{least_from}
use Rattle.wc_declare.specs.Standard.Spaces.{repeated_after}
use Rattle.wc_declare.specs.Kept.Seen.{HaveNames, copies}
use Rattle.wc_declare.proofs.Adding.{Adding}
use Rattle.wc_declare.proofs.inner.note_copies.Given as goal

abbrev pub invariant-loop-done : goal.invariant-loop-done
invariant-loop-done l = (ds : List (Option (List ℕ))) → HaveNames ds l.initial.seen
    → Adding (λ (x : List (Option (List ℕ))). HaveNames x l.seen) ds
    (least_from l.initial.noted.first (repeated_after ds (copies l.count l.id)))
    l.noted.first (copies l.count l.id) (copies (l.count - l._done) l.id)
