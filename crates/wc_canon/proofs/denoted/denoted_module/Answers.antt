use Rattle.std.proofs.Common.{rules}
use Rattle.wc_canon.proofs.denoted.denoted_module.Goals as goal

-- written out, so that a wrong body is refused by this search alone
pub returns-else-is_binary-clause-err : goal.returns-else-is_binary-clause-err
returns-else-is_binary-clause-err c = search rules
