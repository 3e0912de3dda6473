use Rattle.wc_canon.proofs.Laws.{answers-are-fixed}
use Rattle.wc_canon.proofs.law.answers_are_fixed.Goals as goal

pub returns : goal.returns
returns c = answers-are-fixed
