use Rattle.wc_binary.specs.Standard.Style.{free}
use Rattle.wc_binary.proofs.sections.Order.{bin-rises}
use Rattle.wc_binary.proofs.sections.OneModule.{rises-or-stop}
use Rattle.wc_binary.proofs.law.module_or_fault.Goals as goal

pub returns : goal.returns
returns c = λ x m f h k. rises-or-stop x m f (bin-rises free x m h) k
