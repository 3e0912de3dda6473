use Rattle.std.proofs.Common.{◌≡◌, drop}
use Rattle.wc_check.specs.Judging.Names.{rises_above, rises}
use Rattle.wc_check.proofs.names.is_rising.Given as goal

abbrev pub invariant-loop-number : goal.invariant-loop-number
invariant-loop-number l = rises_above l.last (drop l.number-index l.rest) ≡ rises l.numbers
