use Rattle.wc_read_text.proofs.Laws.{always-one}
use Rattle.wc_read_text.proofs.law.always_one.Goals as goal

pub returns : goal.returns
returns c = always-one
