use Rattle.std.proofs.Math.Facts.{to_z-of_z}
use Rattle.wc_print.proofs.Writing.Going.{written}
use Rattle.wc_print.proofs.numbers.put_integer.Goals as goal

pub returns : goal.returns
returns g c = written (rw (to_z-of_z c.ranges.n) at c.write_integer-end.ensures.put) c.put.ensures
