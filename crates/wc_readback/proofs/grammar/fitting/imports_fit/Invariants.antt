use Rattle.std.proofs.Common.{length}
use Rattle.std.specs.List.{AllByRecursion}
use Rattle.wc_readback.specs.Grammar.Fitting.{FitsImport}
use Rattle.wc_readback.proofs.grammar.fitting.imports_fit.Given as goal

abbrev pub invariant-loop-import : goal.invariant-loop-import
invariant-loop-import l = AllByRecursion FitsImport l.left → AllByRecursion FitsImport l.initial.left

abbrev pub decreases-loop-import : goal.decreases-loop-import
decreases-loop-import l = length l.left
