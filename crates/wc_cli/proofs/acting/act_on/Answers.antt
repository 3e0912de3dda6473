use Rattle.std.proofs.Common.{Err}
use Rattle.wc_cli.proofs.acting.act_on.Goals as goal

pub returns-in-Err-clause-carries_out : goal.returns-in-Err-clause-carries_out
returns-in-Err-clause-carries_out g c = (
  Err c.in-Err.failure,
  rw c.in-Err.is at c.carry_out.ensures.ends,
  rw c.in-Err.is at c.carry_out.ensures.looks,
  c.report.ensures,
  c.carry_out.ensures.again_w,
)
