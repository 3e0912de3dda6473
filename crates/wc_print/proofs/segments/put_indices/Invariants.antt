use Rattle.std.proofs.Common.{drop}
use Rattle.wc_print.specs.Standard.Lines.{number_items}
use Rattle.wc_print.specs.Standard.Going.{Leaves}
use Rattle.wc_print.proofs.segments.put_indices.Given as goal

abbrev pub invariant-loop-index : goal.invariant-loop-index
invariant-loop-index g l = Leaves g.S.Sink.Has (number_items (drop l.index-index l.indices)) (number_items l.indices)
    l.out l.initial.out
