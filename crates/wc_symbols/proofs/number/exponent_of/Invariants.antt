use Rattle.std.proofs.Common.{◌≢◌, ℕ, ◌<◌, ◌^◌}
use Rattle.wc_symbols.proofs.number.exponent_of.Given as goal

-- no smaller power is the number
abbrev pub invariant-loop-exponent : goal.invariant-loop-exponent
invariant-loop-exponent l = (k : ℕ) → k < l.exponent → l.number ≢ 2 ^ k
