use Rattle.std.proofs.Common.{◌^◌, arith}
use Rattle.wc_readback.proofs.GrammarLemmas.Each.{each-item}
use Rattle.wc_readback.proofs.grammar.fitting.numbers_fit.Goals as goal

pub returns : goal.returns
returns c = each-item (2 ^ 32) c.args.numbers.now (λ k. omega (arith, c.type_inv.numbers k))
