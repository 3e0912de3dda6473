use Rattle.wc_meaning.proofs.Joined.{fault-stored, stored-fault}
use Rattle.wc_meaning.proofs.laws.fault_as_stored.Goals as goal

pub returns : goal.returns
returns c = λ fields token why p. (fault-stored fields token why p, stored-fault fields token why p)
