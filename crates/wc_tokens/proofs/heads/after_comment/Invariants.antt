use Rattle.std.proofs.Common.{◌≡◌, ◌-◌, ◌≤◌, length, drop}
use Rattle.wc_tokens.proofs.Comments.AfterComments.{after_comments}
use Rattle.wc_tokens.proofs.heads.after_comment.Given as goal

-- what is left, inside the comments that are open, is read like the whole
abbrev pub invariant-loop-at : goal.invariant-loop-at
invariant-loop-at l = record {
  read : after_comments (drop l.at l.text) l.depth ≡ after_comments l.text 0;
  within : l.at ≤ length l.text;
  few : l.depth ≤ l.at;
}

abbrev pub decreases-loop-at : goal.decreases-loop-at
decreases-loop-at l = length l.text - l.at
