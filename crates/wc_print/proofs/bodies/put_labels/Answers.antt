use Rattle.wc_print.proofs.Writing.Going.{leaves-less}
use Rattle.wc_print.proofs.bodies.put_labels.Goals as goal

pub loop-label-preserved : goal.loop-label-preserved
loop-label-preserved g c = leaves-less c.put_number.ensures (rw c.in-Some.ensures.steps at c.loop-label.invariant)

pub returns : goal.returns
returns g c = (rw c.in_default.ensures.steps.0 at c.loop-label.invariant).finish _ c.put_number-2.ensures
