use Rattle.wc_print.proofs.Writing.Instructions.{at-line, at-inline}
use Rattle.wc_print.proofs.bodies.put_at.Goals as goal

pub returns-in-Line : goal.returns-in-Line
returns-in-Line g c = λ p e h. rw c.in-Line.is (at-line p h e c.put.ensures)

pub returns-in-Inline : goal.returns-in-Inline
returns-in-Inline g c = λ p e h.
    rw c.in-Inline.is (at-inline p _ _ h e c.min.ensures c.put-in-Inline.ensures)
