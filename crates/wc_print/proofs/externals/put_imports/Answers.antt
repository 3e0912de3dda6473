use Rattle.wc_print.proofs.Writing.Going.{leaves-less, leaves-none}
use Rattle.wc_print.proofs.externals.put_imports.Goals as goal

pub loop-import-preserved : goal.loop-import-preserved
loop-import-preserved g c = leaves-less c.put_import.ensures (rw c.in-Some.ensures.steps at c.loop-import.invariant)

pub returns : goal.returns
returns g c =
    leaves-none (rw c.iter-left.ensures at (rw c.in_default.ensures.steps.0 at c.loop-import.invariant))
