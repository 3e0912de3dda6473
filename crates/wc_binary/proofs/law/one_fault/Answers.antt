use Rattle.wc_binary.proofs.sections.OneModule.{one-fault}
use Rattle.wc_binary.proofs.law.one_fault.Goals as goal

pub returns : goal.returns
returns c = one-fault
