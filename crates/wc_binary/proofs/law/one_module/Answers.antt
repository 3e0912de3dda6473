use Rattle.wc_binary.specs.Standard.Style.{free}
use Rattle.wc_binary.proofs.sections.Order.{bin-rises}
use Rattle.wc_binary.proofs.sections.OneModule.{rises-one}
use Rattle.wc_binary.proofs.law.one_module.Goals as goal

pub returns : goal.returns
returns c = λ x m n h k. rises-one x m n (bin-rises free x m h) (bin-rises free x n k)
