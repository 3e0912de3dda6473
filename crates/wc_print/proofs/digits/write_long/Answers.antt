use Rattle.std.proofs.Common.{arith}
use Rattle.wc_print.proofs.Writing.Paging.{millions, billions}
use Rattle.wc_print.proofs.digits.write_long.Goals as goal

pub returns-clause-bytes : goal.returns-clause-bytes
returns-clause-bytes c =
    c.write_three_more.ensures.bytes _ (omega arith)
    (c.write_three_more-last.ensures.bytes _ (omega arith)
    (rw (millions c.args.n) (c.write_three_more-next.ensures.bytes _ (omega arith)
    (rw (billions c.args.n) c.write_many_digits-end.ensures.bytes))))
