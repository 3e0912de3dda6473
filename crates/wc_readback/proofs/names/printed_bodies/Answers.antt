use Rattle.wc_readback.proofs.NameLemmas.BodiesBack.{body-back, body-clean}
use Rattle.wc_readback.proofs.names.printed_bodies.Goals as goal

pub returns : goal.returns
returns c = record { same = body-back; faultless = body-clean }
