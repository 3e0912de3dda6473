use Rattle.wc_print.proofs.Writing.Going.{all-out, chain}
use Rattle.wc_print.proofs.definitions.put_func.Goals as goal

pub returns : goal.returns
returns g c =
    all-out
    (chain (rw c.ty.ensures at c.begin_func-head.ensures.put)
    (chain (rw c.locals.ensures at c.put_locals_behind-begin.ensures.put) (rw c.body.ensures at c.put_lines.ensures)))
