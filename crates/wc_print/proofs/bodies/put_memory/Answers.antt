use Rattle.wc_print.proofs.Writing.Going.{written}
use Rattle.wc_print.proofs.bodies.put_memory.Goals as goal

pub returns : goal.returns
returns g c = written c.write_memory-end.ensures.put c.put.ensures
