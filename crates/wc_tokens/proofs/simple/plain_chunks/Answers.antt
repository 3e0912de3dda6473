use Rattle.std.proofs.Common.{arith}
use Rattle.wc_tokens.proofs.Escapes.SimpleLaws.{plain-more}
use Rattle.wc_tokens.proofs.simple.plain_chunks.Goals as goal

pub loop-at-preserved : goal.loop-at-preserved
loop-at-preserved c =
    plain-more c.args.text.now c.loop-at.at 16 (omega (arith, c.loop-at.invariant.0)) c.loop-at.invariant.1
    (c.all_plain.ensures c.if-all_plain.true)
