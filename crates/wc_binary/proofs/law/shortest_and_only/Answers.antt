use Rattle.wc_binary.proofs.spelling.whole.Modules.{shortest-and-only}
use Rattle.wc_binary.proofs.law.shortest_and_only.Goals as goal

pub returns : goal.returns
returns c = shortest-and-only
