use Rattle.std.proofs.Common.{◌≤◌, ◌-◌, length}
use Rattle.wc_tokens.specs.Standard.Tokens.{lexemes_of}
use Rattle.wc_parse.specs.Kept.SaidSoFar.{IsSaid}
use Rattle.wc_parse.proofs.fields.take_each.Given as goal

abbrev pub invariant-loop-at : goal.invariant-loop-at
invariant-loop-at l = record {
  within : l.at ≤ length l.all;
  said : IsSaid (lexemes_of l.all) l.at l.reading l.draft;
}

abbrev pub decreases-loop-at : goal.decreases-loop-at
decreases-loop-at l = length l.all - l.at
