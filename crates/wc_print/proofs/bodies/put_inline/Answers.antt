use Rattle.wc_print.proofs.Writing.Going.{leaves-less, leaves-none}
use Rattle.wc_print.proofs.bodies.put_inline.Goals as goal

pub loop-entry-preserved : goal.loop-entry-preserved
loop-entry-preserved g c =
    leaves-less c.put_entry.ensures (rw c.in-Some.ensures.steps at c.loop-entry.invariant)

pub returns : goal.returns
returns g c =
    leaves-none (rw c.entries-entries.ensures.marks at (rw c.in_default.ensures.steps.0 at c.loop-entry.invariant))
