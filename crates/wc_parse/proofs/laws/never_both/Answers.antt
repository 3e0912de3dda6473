use Rattle.wc_parse.proofs.Saying.Answering.{never-both}
use Rattle.wc_parse.proofs.laws.never_both.Goals as goal

pub returns : goal.returns
returns c = never-both
