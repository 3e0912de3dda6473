use Rattle.wc_print.proofs.Tables.BriefTables.{line-is}
use Rattle.wc_print.proofs.lines.line_of.Goals as goal

pub returns : goal.returns
returns c = line-is c.args.opcode c.ranges.opcode.fits
