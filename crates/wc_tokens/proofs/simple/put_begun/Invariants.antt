use Rattle.std.proofs.Common.{◌≡◌, ◌+◌, ◌≤◌, length, take}
use Rattle.wc_tokens.specs.Standard.Strings.{Elements}
use Rattle.wc_tokens.specs.Reading.Simple.{left_over}
use Rattle.wc_tokens.proofs.simple.put_begun.Given as goal

-- what was put so far stands for the elements that begin at the places so far
abbrev pub invariant-loop-k : goal.invariant-loop-k
invariant-loop-k l = record {
  made : l.made ≤ l.k;
  room : length l.bytes ≡ 256;
  elements : Elements (take (l.k + left_over l.text l.k) l.text) (take l.made l.bytes);
}
