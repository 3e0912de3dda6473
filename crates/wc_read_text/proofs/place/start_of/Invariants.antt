use Rattle.std.proofs.Common.{◌≤◌, length}
use Rattle.wc_read_text.proofs.Places.{IsAt}
use Rattle.wc_read_text.proofs.place.start_of.Given as goal

abbrev pub invariant-loop-found : goal.invariant-loop-found
invariant-loop-found l = record {
  within : l.at ≤ l.token;
  reading : IsAt l.text l.at l.lexer;
}

abbrev pub decreases-loop-found : goal.decreases-loop-found
decreases-loop-found l = length l.lexer.rest
