use Rattle.std.proofs.Common.{rules}
use Rattle.wc_canon.proofs.running.send.Goals as goal

-- written out, so that a wrong body is refused by this search alone
pub returns-in-Err-clause-wrote : goal.returns-in-Err-clause-wrote
returns-in-Err-clause-wrote g c = search rules
