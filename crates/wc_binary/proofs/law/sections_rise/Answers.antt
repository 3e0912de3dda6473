use Rattle.wc_binary.specs.Standard.Style.{free}
use Rattle.wc_binary.proofs.sections.Order.{bin-rises, rises-bin}
use Rattle.wc_binary.proofs.law.sections_rise.Goals as goal

pub returns : goal.returns
returns c = λ x m. (bin-rises free x m, rises-bin free x m)
