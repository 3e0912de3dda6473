use Rattle.wc_canon.proofs.Laws.{never-both}
use Rattle.wc_canon.proofs.law.never_both.Goals as goal

pub returns : goal.returns
returns c = never-both
