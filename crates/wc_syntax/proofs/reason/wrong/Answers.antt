use Rattle.std.proofs.Common.{rules}
use Rattle.wc_syntax.proofs.reason.wrong.Goals as goal

-- written out, so that a wrong body is refused by these searches alone
pub returns-in-Open : goal.returns-in-Open
returns-in-Open c = search rules

pub returns-in-MemOffsetForm : goal.returns-in-MemOffsetForm
returns-in-MemOffsetForm c = search rules
