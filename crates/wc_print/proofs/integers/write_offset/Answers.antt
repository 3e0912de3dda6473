use Rattle.wc_print.proofs.Writing.Paging.{offset-some}
use Rattle.wc_print.proofs.integers.write_offset.Goals as goal

pub returns-clause-put : goal.returns-clause-put
returns-clause-put c =
    offset-some _ _ _ _ c.if-offset-eq0.false c.ranges.offset.fits c.write_row-end.ensures.bytes
    (rw c.from.ensures at c.write_natural.ensures.bytes)
