use Rattle.std.proofs.Common.{rules}
use Rattle.wc_syntax.proofs.table.places.use_step.Goals as goal

-- written out, so that a wrong body is refused by this search alone
pub returns-in-ValType-kind : goal.returns-in-ValType-kind
returns-in-ValType-kind c = search rules
