use Rattle.wc_ops.proofs.Meanings.OfTypes.{type-byte}
use Rattle.wc_ops.proofs.op_law.value_types_lead_back.Goals as goal

pub returns : goal.returns
returns c = type-byte
