use Rattle.std.proofs.Common.{◌≡◌, ◌-◌, ◌≤◌, length, take}
use Rattle.wc_tokens.specs.Standard.Strings.{Elements}
use Rattle.wc_tokens.proofs.simple.read_pairs.Given as goal

abbrev pub invariant-loop-made : goal.invariant-loop-made
invariant-loop-made l = record {
  made : l.made ≤ 256;
  within : l.len ≤ length l.text;
  room : length l.bytes ≡ 256;
  elements : Elements (take l.len l.text) (take l.made l.bytes);
}

abbrev pub decreases-loop-made : goal.decreases-loop-made
decreases-loop-made l = 256 - l.made
