use Rattle.std.proofs.Common.{◌≡◌, ◌-◌, ◌<◌, ◌≤◌, true, false, Some, length, drop}
use Rattle.wc_tokens.specs.Reading.Scans.{scan}
use Rattle.wc_tokens.proofs.digits.digits.Given as goal

-- what is left, read from here, is read like the whole
abbrev pub invariant-loop-at : goal.invariant-loop-at
invariant-loop-at l = record {
  read : scan l.base l.after_digit l.value (drop l.at l.text) ≡ scan l.base false (Some 0) l.text;
  within : l.at ≤ length l.text;
  begun : l.after_digit ≡ true → 0 < l.at;
}

abbrev pub decreases-loop-at : goal.decreases-loop-at
decreases-loop-at l = length l.text - l.at
