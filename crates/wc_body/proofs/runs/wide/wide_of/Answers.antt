use Rattle.wc_body.proofs.Drafts.Runs.WideLemmas.{row-is}
use Rattle.wc_body.proofs.runs.wide.wide_of.Goals as goal

pub returns : goal.returns
returns c = row-is c.args.opcode _ c.ranges.opcode.fits
