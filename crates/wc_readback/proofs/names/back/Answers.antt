use Rattle.wc_readback.proofs.NameLemmas.Reading.{text-of}
use Rattle.wc_readback.proofs.names.back.Goals as goal

pub returns : goal.returns
returns c = text-of
