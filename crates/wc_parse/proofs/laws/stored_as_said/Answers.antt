use Rattle.wc_parse.proofs.Saying.Joined.{folds-say, says-folds}
use Rattle.wc_parse.proofs.laws.stored_as_said.Goals as goal

pub returns-clause-said : goal.returns-clause-said
returns-clause-said c = folds-say

pub returns-clause-given : goal.returns-clause-given
returns-clause-given c = says-folds
