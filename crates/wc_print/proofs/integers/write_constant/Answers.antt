use Rattle.std.proofs.Math.Facts.{to_z-of_z}
use Rattle.wc_ops.specs.Standard.Opcodes.{row}
use Rattle.wc_print.specs.Standard.Printed.{word}
use Rattle.wc_print.proofs.Writing.Putting.{chain}
use Rattle.wc_print.proofs.Writing.Paging.{line-put}
use Rattle.wc_print.proofs.integers.write_constant.Goals as goal

pub returns-clause-put : goal.returns-clause-put
returns-clause-put c = λ is.
    chain (line-put (word (row c.args.op).name) is c.op_line.ensures.line c.write_row-end.ensures.bytes)
    (rw (to_z-of_z c.ranges.n) at c.write_integer.ensures.put)
