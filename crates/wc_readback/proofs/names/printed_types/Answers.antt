use Rattle.wc_readback.proofs.NameLemmas.Typing.{same-types, no-use-faults}
use Rattle.wc_readback.proofs.names.printed_types.Goals as goal

pub returns : goal.returns
returns c = record { types = same-types; uses = no-use-faults }
