use Rattle.std.proofs.Common.{◌≡◌, ℕ, ◌+◌, ◌-◌, ◌<◌, ◌≤◌, length}
use Rattle.wc_tokens.specs.Reading.Simple.{IsSimpleAt, IsBegunAt, AreNoted}
use Rattle.wc_tokens.proofs.simple.note_places.Given as goal

abbrev pub invariant-loop-at : goal.invariant-loop-at
invariant-loop-at l = record {
  room : l.at ≤ 256;
  within : l.at + 2 ≤ length l.text;
  values : length l.values ≡ 256;
  starts : length l.starts ≡ 258;
  simple : (k : ℕ) → k < l.at → IsSimpleAt l.text k;
  begun : IsBegunAt l.text l.at;
  noted : AreNoted l.text l.values l.starts l.at;
}

abbrev pub decreases-loop-at : goal.decreases-loop-at
decreases-loop-at l = 256 - l.at
