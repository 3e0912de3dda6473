use Rattle.std.proofs.Common.{◌≡◌, drop}
use Rattle.wc_check.specs.Standard.Rules.{each}
use Rattle.wc_check.specs.Judging.Verdicts.{verdict}
use Rattle.wc_check.specs.Standard.Broken.{broken_elem}
use Rattle.wc_check.proofs.segments.check_elems.Given as goal

abbrev pub invariant-loop-place : goal.invariant-loop-place
invariant-loop-place l =
    verdict (each (broken_elem l.«module») l.place (drop l.place l.«module».elems))
    ≡ verdict (each (broken_elem l.«module») 0 l.«module».elems)
