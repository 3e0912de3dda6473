use Rattle.wc_parse.proofs.Saying.Answering.{always-one}
use Rattle.wc_parse.proofs.laws.always_one.Goals as goal

pub returns : goal.returns
returns c = always-one
