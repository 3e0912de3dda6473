use Rattle.wc_binary.proofs.spelling.whole.Modules.{bin-canon}
use Rattle.wc_binary.proofs.law.always_canonical.Goals as goal

pub returns : goal.returns
returns c = bin-canon
