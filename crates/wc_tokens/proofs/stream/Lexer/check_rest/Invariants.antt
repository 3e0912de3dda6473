use Rattle.std.proofs.Common.{length}
use Rattle.wc_tokens.specs.Reading.Stops.{EndsWith}
use Rattle.wc_tokens.proofs.Lexing.StreamLaws.{IsPassed}
use Rattle.wc_tokens.proofs.stream.Lexer.check_rest.Given as goal

abbrev pub invariant-loop-behind : goal.invariant-loop-behind
invariant-loop-behind l = record {
  passed : IsPassed (length l.self-inside.text.now) l.self-inside.rest.now l.rest;
  ends : EndsWith l.self-inside.text.now l.rest;
}

abbrev pub decreases-loop-behind : goal.decreases-loop-behind
decreases-loop-behind l = length l.rest
