use Rattle.wc_readback.proofs.grammar.fitting.exports_fit.Goals as goal

pub loop-export-preserved : goal.loop-export-preserved
loop-export-preserved c = λ h. (rw c.in-Some.ensures.steps at c.loop-export.invariant) (c.export_fits.ensures, h)
