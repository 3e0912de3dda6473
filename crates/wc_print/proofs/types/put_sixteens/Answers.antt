use Rattle.wc_print.proofs.Writing.Values.{count-by}
use Rattle.wc_print.proofs.types.put_sixteens.Goals as goal

pub loop-left-preserved : goal.loop-left-preserved
loop-left-preserved g c =
    count-by 16 _ _ c.loop-left-test.true c.put_sixteen.ensures c.loop-left.invariant
