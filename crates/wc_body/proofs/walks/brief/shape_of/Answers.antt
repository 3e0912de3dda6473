use Rattle.wc_body.proofs.Packing.BriefLemmas.{row-is}
use Rattle.wc_body.proofs.walks.brief.shape_of.Goals as goal

pub returns : goal.returns
returns c = row-is c.args.opcode _ c.ranges.opcode.fits
