use Rattle.std.proofs.Common.{refl}
use Rattle.wc_spaces.specs.Kept.Directory.{slot_in}
use Rattle.wc_spaces.proofs.directory.slot_of.Goals as goal

pub returns : goal.returns
unfolding slot_in
returns c = refl
