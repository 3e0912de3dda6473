use Rattle.wc_print.proofs.Writing.Going.{written}
use Rattle.wc_print.proofs.short.put_short_import.Goals as goal

pub returns : goal.returns
returns g c = written c.write_import-end.ensures.put c.put.ensures
