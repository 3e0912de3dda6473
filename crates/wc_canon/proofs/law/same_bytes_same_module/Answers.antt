use Rattle.wc_canon.proofs.Laws.{same-bytes-same-module}
use Rattle.wc_canon.proofs.law.same_bytes_same_module.Goals as goal

pub returns : goal.returns
returns c = same-bytes-same-module
