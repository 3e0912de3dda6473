use Rattle.wc_canon.proofs.Laws.{never-too-large}
use Rattle.wc_canon.proofs.law.never_oversize.Goals as goal

pub returns : goal.returns
returns c = never-too-large
