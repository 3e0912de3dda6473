use Rattle.std.proofs.Common.{length}
use Rattle.std.specs.List.{flat_map}
use Rattle.wc_print.specs.Standard.Going.{Leaves}
use Rattle.wc_print.specs.Standard.Layout.{import_items}
use Rattle.wc_print.proofs.externals.put_imports.Given as goal

abbrev pub invariant-loop-import : goal.invariant-loop-import
invariant-loop-import g l =
    Leaves g.S.Sink.Has (flat_map import_items l.left) (flat_map import_items l.initial.left) l.out l.initial.out

abbrev pub decreases-loop-import : goal.decreases-loop-import
decreases-loop-import g l = length l.left
