use Rattle.wc_leb128.proofs.Reading.ShortFront.{found-front}
use Rattle.wc_binary.specs.Standard.Values.{u32}
use Rattle.wc_binary.proofs.decoder.front.long_u32_front.Goals as goal

pub returns : goal.returns
unfolding u32
returns c = found-front 32 _ _ c.u32_front.ensures
