use Rattle.std.proofs.Common.{arith}
use Rattle.wc_print.proofs.Tables.BriefTables.{op-told}
use Rattle.wc_print.proofs.lines.op_line.Goals as goal

pub returns-clause-line : goal.returns-clause-line
returns-clause-line c = op-told c.args.op _ (rw c.byte.ensures at c.line_of.ensures)

pub returns-clause-short : goal.returns-clause-short
returns-clause-short c = omega (arith, c.line_of.ensures.short)
