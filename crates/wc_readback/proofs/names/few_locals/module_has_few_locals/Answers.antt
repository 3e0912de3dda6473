use Rattle.wc_readback.proofs.names.few_locals.module_has_few_locals.Goals as goal

pub loop-func-preserved : goal.loop-func-preserved
loop-func-preserved c = λ h. (rw c.in-Some.ensures.steps at c.loop-func.invariant) (c.func_has_few_locals.ensures, h)
