use Rattle.wc_binary.proofs.sections.Total.{bin-judged}
use Rattle.wc_binary.proofs.law.always_judged.Goals as goal

pub returns : goal.returns
returns c = bin-judged
