use Rattle.std.proofs.Common.{rules, ◌<◌, ◌^◌, ℕ, ◌≤◌, arith}
use Rattle.std.proofs.Math.Pow.{pow_mono}
use Rattle.wc_leb128.proofs.bits.fits.Goals as goal

in_eight : (number bits : ℕ) → number < 256 → 8 ≤ bits → number < 2 ^ bits
in_eight number bits lt more = let p : 2 ^ 8 ≤ 2 ^ bits = pow_mono more in omega arith

pub returns-then-bits-ge8 : goal.returns-then-bits-ge8
returns-then-bits-ge8 c = (λ _. in_eight c.args.number c.args.bits (omega arith) c.if-bits-ge8.true, λ _. search rules)
