use Rattle.wc_parse.proofs.Saying.Written.{always-written, always-said}
use Rattle.wc_parse.proofs.laws.always_written.Goals as goal

pub returns : goal.returns
returns c = record { written = always-written; said = always-said }
