use Rattle.wc_readback.proofs.grammar.fitting.funcs_fit.Goals as goal

pub loop-func-preserved : goal.loop-func-preserved
loop-func-preserved c = λ h. (rw c.in-Some.ensures.steps at c.loop-func.invariant) (c.func_fits.ensures, h)
