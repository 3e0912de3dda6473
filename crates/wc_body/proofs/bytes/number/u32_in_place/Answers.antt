use Rattle.wc_body.proofs.Packing.Integers.{unsigned-same}
use Rattle.wc_body.proofs.bytes.number.u32_in_place.Goals as goal

pub returns : goal.returns
returns c = unsigned-same 32 c.args.bytes.now c.u32_front.result c.u32_front.ensures
