use Rattle.wc_readback.proofs.GrammarLemmas.Each.{each-less, each-none}
use Rattle.wc_readback.proofs.grammar.fitting.all_fit.Goals as goal

pub loop-part-preserved : goal.loop-part-preserved
loop-part-preserved g c =
    each-less g.P.Part.fits c.args.parts.now c.loop-part.part-index c.part-item.result _ c.part-item.is
    c.loop-part-test.true c.part_fits.ensures c.loop-part.invariant

pub returns : goal.returns
returns g c =
    each-none g.P.Part.fits c.args.parts.now c.loop-part.part-index c.loop-part-test.false c.loop-part.invariant
