use Rattle.wc_parse.proofs.Saying.Written.{one-written}
use Rattle.wc_parse.proofs.laws.one_written_list.Goals as goal

pub returns : goal.returns
returns c = one-written
