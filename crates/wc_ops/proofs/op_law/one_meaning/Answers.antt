use Rattle.wc_ops.proofs.Meanings.OneMeaning.{one-byte, one-name}
use Rattle.wc_ops.proofs.op_law.one_meaning.Goals as goal

pub returns-clause-byte : goal.returns-clause-byte
returns-clause-byte c = one-byte

pub returns-clause-name : goal.returns-clause-name
returns-clause-name c = one-name
