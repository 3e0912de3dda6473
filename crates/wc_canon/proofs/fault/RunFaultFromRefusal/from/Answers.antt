use Rattle.std.proofs.Common.{rules}
use Rattle.wc_canon.proofs.fault.RunFaultFromRefusal.from.Goals as goal

-- written out, so that a wrong body is refused by this search alone
pub returns-in-Memory : goal.returns-in-Memory
returns-in-Memory c = search rules
