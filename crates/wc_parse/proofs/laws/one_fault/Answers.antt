use Rattle.wc_parse.proofs.Saying.Answering.{one-fault}
use Rattle.wc_parse.proofs.laws.one_fault.Goals as goal

pub returns : goal.returns
returns c = one-fault
