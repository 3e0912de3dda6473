use Rattle.std.proofs.Common.{arith}
use Rattle.wc_readback.proofs.GrammarLemmas.Each.{each-item}
use Rattle.wc_readback.proofs.grammar.fitting.bytes_fit.Goals as goal

pub returns : goal.returns
returns c = each-item 256 c.args.bytes.now (λ k. omega (arith, c.type_inv.bytes k))
