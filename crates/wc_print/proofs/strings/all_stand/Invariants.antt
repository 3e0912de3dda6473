use Rattle.std.proofs.Common.{◌≡◌, ℕ, ◌<◌, true, IsTrue, get_or}
use Rattle.wc_print.specs.Standard.Printed.{stands}
use Rattle.wc_print.proofs.strings.all_stand.Given as goal

abbrev pub invariant-loop-byte : goal.invariant-loop-byte
invariant-loop-byte l = IsTrue l.all → (k : ℕ) → k < l.byte-index → stands (get_or l.bytes k 0) ≡ true
