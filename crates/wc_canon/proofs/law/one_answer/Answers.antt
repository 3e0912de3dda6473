use Rattle.wc_canon.proofs.Laws.{one-answer}
use Rattle.wc_canon.proofs.law.one_answer.Goals as goal

pub returns : goal.returns
returns c = one-answer
