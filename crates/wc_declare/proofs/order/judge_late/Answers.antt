use Rattle.std.proofs.Common.{rules}
use Rattle.wc_declare.proofs.order.judge_late.Goals as goal

-- written out, so that a wrong body is refused by this search alone
pub returns-in-true-Import : goal.returns-in-true-Import
returns-in-true-Import c = search rules
