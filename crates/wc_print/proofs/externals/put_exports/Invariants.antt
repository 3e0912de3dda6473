use Rattle.std.proofs.Common.{length}
use Rattle.std.specs.List.{flat_map}
use Rattle.wc_print.specs.Standard.Going.{Leaves}
use Rattle.wc_print.specs.Standard.Layout.{export_items}
use Rattle.wc_print.proofs.externals.put_exports.Given as goal

abbrev pub invariant-loop-export : goal.invariant-loop-export
invariant-loop-export g l =
    Leaves g.S.Sink.Has (flat_map export_items l.left) (flat_map export_items l.initial.left) l.out l.initial.out

abbrev pub decreases-loop-export : goal.decreases-loop-export
decreases-loop-export g l = length l.left
