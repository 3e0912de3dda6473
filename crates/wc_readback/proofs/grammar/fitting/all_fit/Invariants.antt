use Rattle.std.proofs.Common.{drop}
use Rattle.std.specs.List.{AllByRecursion}
use Rattle.wc_readback.proofs.grammar.fitting.all_fit.Given as goal

abbrev pub invariant-loop-part : goal.invariant-loop-part
invariant-loop-part g l = AllByRecursion g.P.Part.fits (drop l.part-index l.parts)
    → AllByRecursion g.P.Part.fits l.parts
