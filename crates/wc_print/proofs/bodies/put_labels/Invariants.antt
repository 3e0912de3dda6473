use Rattle.std.proofs.Common.{◌++◌, ◌∷◌, [], length}
use Rattle.wc_print.specs.Standard.Printed.{after, number}
use Rattle.wc_print.specs.Standard.Going.{Leaves}
use Rattle.wc_print.specs.Standard.Lines.{number_items}
use Rattle.wc_print.proofs.bodies.put_labels.Given as goal

abbrev pub invariant-loop-label : goal.invariant-loop-label
invariant-loop-label g l =
    Leaves g.S.Sink.Has (number_items l.labels ++ after (number l.default)
    ∷ []) (number_items l.initial.labels ++ after (number l.default) ∷ [])
    l.out l.initial.out

abbrev pub decreases-loop-label : goal.decreases-loop-label
decreases-loop-label g l = length l.labels
