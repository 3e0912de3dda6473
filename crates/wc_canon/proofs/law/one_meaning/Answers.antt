use Rattle.wc_canon.proofs.Laws.{one-meaning}
use Rattle.wc_canon.proofs.law.one_meaning.Goals as goal

pub returns : goal.returns
returns c = one-meaning
