use Rattle.std.proofs.Common.{arith}
use Rattle.wc_print.proofs.Writing.Numbering.{number-put}
use Rattle.wc_print.proofs.Writing.Paging.{behind-space}
use Rattle.wc_print.proofs.digits.write_index.Goals as goal

pub returns-clause-put : goal.returns-clause-put
returns-clause-put c =
    number-put c.args.index _ _ (omega arith)
    (behind-space c.args.room.now _ _ c.args.at _ (omega arith) c.write_digits.ensures.bytes)
