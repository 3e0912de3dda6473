use Rattle.std.proofs.Common.{arith}
use Rattle.wc_print.proofs.Writing.Numbering.{number-put}
use Rattle.wc_print.proofs.Writing.Paging.{behind-space}
use Rattle.wc_print.proofs.digits.write_number.Goals as goal

pub returns-clause-put : goal.returns-clause-put
returns-clause-put c =
    number-put c.args.n _ _ c.ranges.n.fits
    (behind-space c.args.room.now _ _ c.args.at _ (omega arith) (rw c.from.ensures at c.write_natural.ensures.bytes))
