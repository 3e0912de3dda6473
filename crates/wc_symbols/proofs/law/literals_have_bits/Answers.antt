use Rattle.wc_symbols.proofs.RangeLemmas.{has-32, has-64}
use Rattle.wc_symbols.proofs.law.literals_have_bits.Goals as goal

pub returns-clause-of_32 : goal.returns-clause-of_32
returns-clause-of_32 c = has-32

pub returns-clause-of_64 : goal.returns-clause-of_64
returns-clause-of_64 c = has-64
