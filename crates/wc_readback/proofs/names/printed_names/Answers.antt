use Rattle.wc_readback.proofs.NameLemmas.Naming.{named}
use Rattle.wc_readback.proofs.names.printed_names.Goals as goal

pub returns : goal.returns
returns c = named
