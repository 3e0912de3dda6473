use Rattle.wc_symbols.proofs.RangeLemmas.{TokenIs-same}
use Rattle.wc_symbols.proofs.law.one_symbol.Goals as goal

pub returns : goal.returns
returns c = TokenIs-same
