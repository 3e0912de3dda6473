use Rattle.std.proofs.Common.{ℕ, ◌<◌, IsTrue, get_or}
use Rattle.wc_tokens.specs.Standard.Strings.{IsPlain}
use Rattle.wc_tokens.proofs.simple.all_plain.Given as goal

abbrev pub invariant-loop-byte : goal.invariant-loop-byte
invariant-loop-byte l = IsTrue l.all → (k : ℕ) → k < l.byte-index → IsPlain (get_or l.bytes k 0)
