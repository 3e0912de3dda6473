use Rattle.wc_read_text.proofs.Laws.{one-module}
use Rattle.wc_read_text.proofs.law.one_module.Goals as goal

pub returns : goal.returns
returns c = one-module
