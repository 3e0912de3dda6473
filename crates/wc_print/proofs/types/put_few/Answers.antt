use Rattle.wc_print.proofs.Writing.Values.{count-less, count-none}
use Rattle.wc_print.proofs.types.put_few.Goals as goal

pub loop-left-preserved : goal.loop-left-preserved
loop-left-preserved g c =
    count-less _ _ c.loop-left-test.true c.put_value_type.ensures c.loop-left.invariant

pub returns : goal.returns
returns g c = count-none _ _ c.loop-left-test.false c.loop-left.invariant
