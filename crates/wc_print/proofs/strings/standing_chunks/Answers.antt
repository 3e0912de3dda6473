use Rattle.std.proofs.Common.{arith}
use Rattle.wc_print.proofs.Writing.Stringing.{stand-more}
use Rattle.wc_print.proofs.strings.standing_chunks.Goals as goal

pub loop-at-preserved : goal.loop-at-preserved
loop-at-preserved c =
    stand-more c.args.bytes.now c.loop-at.at (omega (arith, c.loop-at.invariant.0)) c.loop-at.invariant.1
    (c.all_stand.ensures c.if-all_stand.true)
