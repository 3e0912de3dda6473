use Rattle.std.proofs.Common.{◌≡◌, ◌+◌, ◌^◌, ◌<◌, length}
use Rattle.wc_check.specs.Judging.Verdicts.{verdict}
use Rattle.wc_check.specs.Standard.InstructionRules.{broken_in_body}
use Rattle.wc_check.proofs.Walks.BodyLemmas.{walked}
use Rattle.wc_check.proofs.bodies.check_entries.Given as goal

abbrev pub invariant-loop-entry : goal.invariant-loop-entry
invariant-loop-entry l = record {
  shallow : l.enclosing + length l.entries + 1 < 2 ^ 64;
  few : l.number + length l.entries < 2 ^ 64;
  rest :
      walked l.context l.locals l.func l.number l.enclosing l.entries
      ≡ verdict (broken_in_body l.context l.locals l.func l.body);
}

abbrev pub decreases-loop-entry : goal.decreases-loop-entry
decreases-loop-entry l = length l.entries
