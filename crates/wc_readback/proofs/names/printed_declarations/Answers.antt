use Rattle.wc_readback.proofs.NameLemmas.Declaring.{no-declaration-faults}
use Rattle.wc_readback.proofs.names.printed_declarations.Goals as goal

pub returns : goal.returns
returns c = no-declaration-faults
