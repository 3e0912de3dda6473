use Rattle.std.proofs.Common.{ℕ, ◌-◌, ◌<◌, ◌≤◌, length, get_or}
use Rattle.wc_tokens.specs.Standard.Strings.{IsPlain}
use Rattle.wc_tokens.proofs.plain.plain_run.Given as goal

abbrev pub invariant-loop-at : goal.invariant-loop-at
invariant-loop-at l = (l.at ≤ length l.text) × ((k : ℕ) → k < l.at → IsPlain (get_or l.text k 0))

abbrev pub decreases-loop-at : goal.decreases-loop-at
decreases-loop-at l = length l.text - l.at
