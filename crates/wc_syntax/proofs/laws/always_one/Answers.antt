use Rattle.wc_syntax.proofs.Stacks.Exactness.{always-one}
use Rattle.wc_syntax.proofs.laws.always_one.Goals as goal

pub returns : goal.returns
returns c = always-one
