use Rattle.std.proofs.Common.{◌≡◌, ◌+◌, ◌<◌, ◌^◌, length}
use Rattle.std.specs.List.{AllByRecursion}
use Rattle.wc_body.specs.Standard.Needed.{needs_of}
use Rattle.wc_check.specs.Judging.Enough.{IsKnown}
use Rattle.wc_check.specs.Standard.Rules.{each}
use Rattle.wc_check.specs.Judging.Verdicts.{verdict}
use Rattle.wc_check.specs.Standard.Spaces.{imported_funcs}
use Rattle.wc_check.specs.Standard.Broken.{broken_func}
use Rattle.wc_check.proofs.definitions.check_funcs.Given as goal

abbrev pub invariant-loop-func : goal.invariant-loop-func
invariant-loop-func l = record {
  few : l.index + length l.funcs < 2 ^ 64;
  known : AllByRecursion (λ f. IsKnown l.context l.known (needs_of f.body)) l.funcs;
  rest :
      verdict (each (broken_func l.«module») l.index l.funcs)
      ≡ verdict (each (broken_func l.«module») (length (imported_funcs l.«module».imports)) l.«module».funcs);
}

abbrev pub decreases-loop-func : goal.decreases-loop-func
decreases-loop-func l = length l.funcs
