use Rattle.wc_syntax.proofs.Stacks.Exactness.{not-both}
use Rattle.wc_syntax.proofs.laws.never_both.Goals as goal

pub returns : goal.returns
returns c = not-both
