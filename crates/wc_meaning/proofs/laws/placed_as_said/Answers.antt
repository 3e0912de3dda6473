use Rattle.wc_meaning.proofs.Codes.Placing.{text-placed}
use Rattle.wc_meaning.proofs.laws.placed_as_said.Goals as goal

pub returns : goal.returns
returns c = text-placed
