use Rattle.wc_syntax.proofs.Stacks.Exactness.{one-list}
use Rattle.wc_syntax.proofs.laws.one_list.Goals as goal

pub returns : goal.returns
returns c = one-list
