use Rattle.wc_print.proofs.Writing.Putting.{chain}
use Rattle.wc_print.proofs.integers.write_memory.Goals as goal

pub returns-clause-put : goal.returns-clause-put
returns-clause-put c = chain c.write_offset-end.ensures.put c.write_align.ensures.put
