use Rattle.wc_ops.proofs.Meanings.OfBytes.{meaning-is}
use Rattle.wc_ops.proofs.op_law.meaning_is_the_table.Goals as goal

pub returns : goal.returns
returns c = meaning-is
