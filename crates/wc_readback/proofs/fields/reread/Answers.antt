use Rattle.wc_readback.proofs.FieldLemmas.Whole.{whole}
use Rattle.wc_readback.proofs.fields.reread.Goals as goal

pub returns : goal.returns
returns c = whole
