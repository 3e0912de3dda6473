use Rattle.wc_print.proofs.Writing.Paging.{align-some}
use Rattle.wc_print.proofs.Writing.Instructions.{bytes-few}
use Rattle.wc_print.proofs.integers.write_align.Goals as goal

pub returns-clause-put : goal.returns-clause-put
returns-clause-put c =
    align-some _ c.args.align _ _ _ _ (rw c.natural_alignment.ensures at c.if-align-natural_alignment.false)
    c.align_bytes.ensures c.write_row-end.ensures.bytes c.write_few_digits.ensures.bytes

pub write_few_digits-requires-clause-few : goal.write_few_digits-requires-clause-few
write_few_digits-requires-clause-few c = rw c.align_bytes.ensures (bytes-few c.args.align)
