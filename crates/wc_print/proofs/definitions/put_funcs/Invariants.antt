use Rattle.std.proofs.Common.{length}
use Rattle.std.specs.List.{flat_map}
use Rattle.wc_print.specs.Standard.Going.{Leaves}
use Rattle.wc_print.specs.Standard.Layout.{func_items}
use Rattle.wc_print.proofs.definitions.put_funcs.Given as goal

abbrev pub invariant-loop-func : goal.invariant-loop-func
invariant-loop-func g l =
    Leaves g.S.Sink.Has (flat_map func_items l.left) (flat_map func_items l.initial.left) l.out l.initial.out

abbrev pub decreases-loop-func : goal.decreases-loop-func
decreases-loop-func g l = length l.left
