use Rattle.std.proofs.Common.{length}
use Rattle.std.specs.List.{flat_map}
use Rattle.wc_print.specs.Standard.Printed.{after}
use Rattle.wc_print.specs.Standard.Going.{Leaves}
use Rattle.wc_print.specs.Standard.Lines.{mark_items}
use Rattle.wc_print.proofs.bodies.put_inline.Given as goal

abbrev pub invariant-loop-entry : goal.invariant-loop-entry
invariant-loop-entry g l =
    Leaves g.S.Sink.Has (flat_map (mark_items (λ p. after p)) l.entries) (flat_map (mark_items (λ p.
    after p)) l.initial.entries)
    l.out l.initial.out

abbrev pub decreases-loop-entry : goal.decreases-loop-entry
decreases-loop-entry g l = length l.entries
