use Rattle.wc_read_text.proofs.Laws.{never-both}
use Rattle.wc_read_text.proofs.law.never_both.Goals as goal

pub returns : goal.returns
returns c = never-both
