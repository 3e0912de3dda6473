use Rattle.wc_syntax.proofs.Stacks.Exactness.{one-fault}
use Rattle.wc_syntax.proofs.laws.one_fault.Goals as goal

pub returns : goal.returns
returns c = one-fault
