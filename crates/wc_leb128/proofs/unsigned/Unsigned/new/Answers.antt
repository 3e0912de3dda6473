use Rattle.std.proofs.Common.{refl}
use Rattle.wc_leb128.specs.Reading.State.{digits}
use Rattle.wc_leb128.proofs.unsigned.Unsigned.new.Goals as goal

pub returns : goal.returns
unfolding digits
returns g c = refl
