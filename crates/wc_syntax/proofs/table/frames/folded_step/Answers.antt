use Rattle.std.proofs.Common.{rules}
use Rattle.wc_syntax.proofs.table.frames.folded_step.Goals as goal

-- written out, so that a wrong body is refused by this search alone
pub returns-in-If : goal.returns-in-If
returns-in-If c = search rules
