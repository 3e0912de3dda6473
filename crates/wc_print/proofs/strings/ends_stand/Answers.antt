use Rattle.std.proofs.Common.{arith}
use Rattle.wc_print.proofs.Writing.Stringing.{ends-stand}
use Rattle.wc_print.proofs.strings.ends_stand.Goals as goal

pub returns-then-all_stand : goal.returns-then-all_stand
returns-then-all_stand c t =
    ends-stand c.args.bytes.now c.args.size (omega arith) (omega arith) (c.all_stand.ensures c.if-all_stand.true)
    (c.all_stand-then-all_stand.ensures t)
