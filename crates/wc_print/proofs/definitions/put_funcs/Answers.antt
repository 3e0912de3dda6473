use Rattle.wc_print.proofs.Writing.Going.{leaves-less, leaves-none}
use Rattle.wc_print.proofs.definitions.put_funcs.Goals as goal

pub loop-func-preserved : goal.loop-func-preserved
loop-func-preserved g c = leaves-less c.put_func.ensures (rw c.in-Some.ensures.steps at c.loop-func.invariant)

pub returns : goal.returns
returns g c =
    leaves-none (rw c.iter-left.ensures at (rw c.in_default.ensures.steps.0 at c.loop-func.invariant))
