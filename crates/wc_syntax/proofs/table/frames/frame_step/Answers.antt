use Rattle.std.proofs.Common.{rules}
use Rattle.wc_syntax.proofs.table.frames.frame_step.Goals as goal

-- written out, so that a wrong body is refused by this search alone
pub returns-in-ElseWord : goal.returns-in-ElseWord
returns-in-ElseWord c = search rules
