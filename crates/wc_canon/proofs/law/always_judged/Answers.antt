use Rattle.wc_canon.proofs.Laws.{always-judged}
use Rattle.wc_canon.proofs.law.always_judged.Goals as goal

pub returns : goal.returns
returns c = always-judged
