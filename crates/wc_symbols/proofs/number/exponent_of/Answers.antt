use Rattle.std.proofs.Common.{arith}
use Rattle.wc_symbols.proofs.Spelling.NumberLemmas.{no-power-before}
use Rattle.wc_symbols.proofs.number.exponent_of.Goals as goal

pub returns : goal.returns
returns c =
    no-power-before c.args.number c.loop-exponent.exponent (omega arith) c.loop-exponent.invariant (omega arith)
