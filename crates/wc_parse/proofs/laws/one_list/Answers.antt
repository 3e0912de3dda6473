use Rattle.wc_parse.proofs.Saying.Answering.{one-list}
use Rattle.wc_parse.proofs.laws.one_list.Goals as goal

pub returns : goal.returns
returns c = one-list
