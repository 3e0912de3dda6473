use Rattle.std.proofs.Common.{rules}
use Rattle.wc_resolve_code.proofs.plain.access.Goals as goal

-- written out, so that a wrong body is refused by this search alone
pub returns-clause-align : goal.returns-clause-align
returns-clause-align c = search rules
