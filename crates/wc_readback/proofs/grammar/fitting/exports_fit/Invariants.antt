use Rattle.std.proofs.Common.{length}
use Rattle.std.specs.List.{AllByRecursion}
use Rattle.wc_readback.specs.Grammar.Fitting.{FitsExport}
use Rattle.wc_readback.proofs.grammar.fitting.exports_fit.Given as goal

abbrev pub invariant-loop-export : goal.invariant-loop-export
invariant-loop-export l = AllByRecursion FitsExport l.left → AllByRecursion FitsExport l.initial.left

abbrev pub decreases-loop-export : goal.decreases-loop-export
decreases-loop-export l = length l.left
