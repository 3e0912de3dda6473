use Rattle.std.proofs.Common.{ℕ, ◌-◌, ◌<◌, ◌≤◌, length}
use Rattle.wc_tokens.specs.Reading.Simple.{IsSimpleAt, IsBegunAt}
use Rattle.wc_tokens.proofs.simple.simple_chunks.Given as goal

abbrev pub invariant-loop-at : goal.invariant-loop-at
invariant-loop-at l = record {
  within : l.at ≤ length l.text;
  simple : (k : ℕ) → k < l.at → IsSimpleAt l.text k;
  begun : IsBegunAt l.text l.at;
}

abbrev pub decreases-loop-at : goal.decreases-loop-at
decreases-loop-at l = length l.text - l.at
