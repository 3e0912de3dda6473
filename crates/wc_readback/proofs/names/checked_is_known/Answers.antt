use Rattle.wc_readback.proofs.NameLemmas.Counting.{signs-few, bodies-few}
use Rattle.wc_readback.proofs.NameLemmas.Checked.{names-known}
use Rattle.wc_readback.proofs.names.checked_is_known.Goals as goal

pub returns : goal.returns
returns c = λ m rules locals printable short. names-known m rules locals (bodies-few m (signs-few m printable short))
