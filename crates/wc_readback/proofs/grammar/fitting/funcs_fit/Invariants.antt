use Rattle.std.proofs.Common.{length}
use Rattle.std.specs.List.{AllByRecursion}
use Rattle.wc_readback.specs.Grammar.Fitting.{FitsFunc}
use Rattle.wc_readback.proofs.grammar.fitting.funcs_fit.Given as goal

abbrev pub invariant-loop-func : goal.invariant-loop-func
invariant-loop-func l = AllByRecursion FitsFunc l.left → AllByRecursion FitsFunc l.initial.left

abbrev pub decreases-loop-func : goal.decreases-loop-func
decreases-loop-func l = length l.left
