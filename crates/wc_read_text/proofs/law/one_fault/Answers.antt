use Rattle.wc_read_text.proofs.Laws.{one-fault}
use Rattle.wc_read_text.proofs.law.one_fault.Goals as goal

pub returns : goal.returns
returns c = one-fault
