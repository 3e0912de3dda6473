use Rattle.std.proofs.Common.{map, replicate}
use Rattle.wc_print.specs.Standard.Lines.{type_item}
use Rattle.wc_print.specs.Standard.Going.{Leaves}
use Rattle.wc_print.proofs.types.put_sixteens.Given as goal

abbrev pub invariant-loop-left : goal.invariant-loop-left
invariant-loop-left g l =
    Leaves g.S.Sink.Has (map type_item (replicate l.left l.group.value_type))
    (map type_item (replicate l.group.count l.group.value_type))
    l.out l.initial.out

abbrev pub decreases-loop-left : goal.decreases-loop-left
decreases-loop-left g l = l.left
