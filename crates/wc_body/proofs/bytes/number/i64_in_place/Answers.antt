use Rattle.wc_body.proofs.Packing.Integers.{signed-same}
use Rattle.wc_body.proofs.bytes.number.i64_in_place.Goals as goal

pub returns : goal.returns
returns c = signed-same 64 c.args.bytes.now c.signed_front.result c.signed_front.ensures
