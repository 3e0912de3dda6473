use Rattle.std.proofs.Common.{rules}
use Rattle.wc_syntax.proofs.table.frames.instr_step.Goals as goal

-- written out, so that a wrong body is refused by this search alone
pub returns-in-Open : goal.returns-in-Open
returns-in-Open c = search rules
