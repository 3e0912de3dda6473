use Rattle.std.proofs.Common.{◌≡◌, ◌+◌, drop, length}
use Rattle.wc_check.specs.Standard.Rules.{each}
use Rattle.wc_check.specs.Judging.Verdicts.{verdict}
use Rattle.wc_check.specs.Standard.Spaces.{imported_globals}
use Rattle.wc_check.specs.Standard.Broken.{broken_global}
use Rattle.wc_check.proofs.definitions.check_globals.Given as goal

abbrev pub invariant-loop-place : goal.invariant-loop-place
invariant-loop-place l = record {
  start : l.start ≡ length (imported_globals l.«module».imports);
  rest :
      verdict (each (broken_global l.«module») (l.start + l.place) (drop l.place l.«module».globals))
      ≡ verdict (each (broken_global l.«module») l.start l.«module».globals);
}
