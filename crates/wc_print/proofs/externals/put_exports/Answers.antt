use Rattle.wc_print.proofs.Writing.Going.{leaves-less, leaves-none}
use Rattle.wc_print.proofs.externals.put_exports.Goals as goal

pub loop-export-preserved : goal.loop-export-preserved
loop-export-preserved g c = leaves-less c.put_export.ensures (rw c.in-Some.ensures.steps at c.loop-export.invariant)

pub returns : goal.returns
returns g c =
    leaves-none (rw c.iter-left.ensures at (rw c.in_default.ensures.steps.0 at c.loop-export.invariant))
