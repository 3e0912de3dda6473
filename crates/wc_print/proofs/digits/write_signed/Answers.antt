use Rattle.std.proofs.Common.{arith}
use Rattle.std.proofs.Math.Facts.{to_z-of_z}
use Rattle.wc_print.proofs.Writing.Numbering.{integer-put}
use Rattle.wc_print.proofs.Writing.Paging.{behind-space}
use Rattle.wc_print.proofs.digits.write_signed.Goals as goal

pub returns-clause-put : goal.returns-clause-put
returns-clause-put c =
    let same = to_z-of_z c.ranges.n in
    integer-put c.args.n _ _ _ c.ranges.n.sfits
    (behind-space c.args.room.now _ _ c.args.at _ (omega arith) (rw same at c.write_sign-begin.ensures.bytes))
    (rw same at (rw c.unsigned_abs.ensures.value at c.write_natural.ensures.bytes))
