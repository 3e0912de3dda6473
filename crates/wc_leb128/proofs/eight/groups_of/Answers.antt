use Rattle.wc_leb128.proofs.Words.Sevens.{groups-together}
use Rattle.wc_leb128.proofs.eight.groups_of.Goals as goal

pub returns : goal.returns
returns c = groups-together c.args.word
