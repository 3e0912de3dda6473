use Rattle.wc_print.proofs.Writing.Going.{written}
use Rattle.wc_print.proofs.short.put_short_export.Goals as goal

pub returns : goal.returns
returns g c = written c.write_export-end.ensures.put c.put.ensures
