use Rattle.wc_canon.proofs.Again.{again}
use Rattle.wc_canon.proofs.law.texts_keep_answers.Goals as goal

pub returns : goal.returns
returns c = again
