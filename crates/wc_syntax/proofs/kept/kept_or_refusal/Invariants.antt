use Rattle.std.proofs.Common.{◌≤◌, ◌-◌, length, take}
use Rattle.wc_syntax.specs.Standard.Parsing.{events}
use Rattle.wc_syntax.specs.Standard.Reading.{IsRead}
use Rattle.wc_syntax.proofs.kept.kept_or_refusal.Given as goal

abbrev pub invariant-loop-at : goal.invariant-loop-at
invariant-loop-at l = record {
  within : l.at ≤ length l.kinds;
  read : IsRead l.limit (take l.at l.kinds) (events l.kept.items) l.reading;
}

abbrev pub decreases-loop-at : goal.decreases-loop-at
decreases-loop-at l = length l.kinds - l.at
