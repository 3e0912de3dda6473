use Rattle.wc_declare.specs.Standard.Uses.{use_faults}
use Rattle.wc_declare.proofs.Faults.{faults-next}
use Rattle.wc_declare.proofs.judging.judge_uses.Goals as goal

pub loop-used-preserved : goal.loop-used-preserved
loop-used-preserved c = λ ds ts a p.
    faults-next (use_faults ds ts) c.args.uses.now c.loop-used.used-index c.used-item.result
    c.loop-used.noted.first _ _ c.loop-used-test.true
    c.used-item.is (rw c.of.ensures at c.judge_use.ensures ds ts a p) (c.loop-used.invariant ds ts a p)
