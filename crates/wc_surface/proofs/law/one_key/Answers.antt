use Rattle.wc_surface.proofs.KeyLemmas.{one-key}
use Rattle.wc_surface.proofs.law.one_key.Goals as goal

pub returns : goal.returns
returns c = one-key
