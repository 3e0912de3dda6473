use Rattle.wc_ast.proofs.Groups.GroupLemmas.{one-grouping}
use Rattle.wc_ast.proofs.locals_law.one_grouping.Goals as goal

pub returns : goal.returns
returns c = one-grouping
