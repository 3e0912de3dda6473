use Rattle.wc_readback.proofs.grammar.fitting.imports_fit.Goals as goal

pub loop-import-preserved : goal.loop-import-preserved
loop-import-preserved c = λ h. (rw c.in-Some.ensures.steps at c.loop-import.invariant) (c.import_fits.ensures, h)
