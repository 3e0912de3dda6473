use Rattle.wc_canon.proofs.Laws.{one-fault}
use Rattle.wc_canon.proofs.law.one_fault.Goals as goal

pub returns : goal.returns
returns c = one-fault
