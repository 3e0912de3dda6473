use Rattle.std.proofs.Common.{◌≡◌, ◌+◌, drop}
use Rattle.wc_check.specs.Standard.Rules.{each}
use Rattle.wc_check.specs.Judging.Verdicts.{verdict}
use Rattle.wc_check.specs.Standard.SizeRules.{broken_mem}
use Rattle.wc_check.proofs.sizes.check_mems.Given as goal

abbrev pub invariant-loop-place : goal.invariant-loop-place
invariant-loop-place l =
    verdict (each broken_mem (l.start + l.place) (drop l.place l.mems)) ≡ verdict (each broken_mem l.start l.mems)
