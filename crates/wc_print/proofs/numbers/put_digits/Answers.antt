use Rattle.wc_print.proofs.Writing.Going.{written}
use Rattle.wc_print.proofs.numbers.put_digits.Goals as goal

pub returns : goal.returns
returns g c = written c.write_number-end.ensures.put c.put.ensures
