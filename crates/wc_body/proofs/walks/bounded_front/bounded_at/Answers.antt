use Rattle.std.proofs.Common.{◌≡◌}
use Rattle.wc_ops.specs.declared.op.OpByte.TheVariants.{Known}
use Rattle.wc_body.specs.Reading.Fronts.{known_front, entry_front}
use Rattle.wc_body.proofs.Packing.Unpacking.{meant-first}
use Rattle.wc_body.proofs.walks.bounded_front.bounded_at.Goals as goal

pub returns : goal.returns
returns c =
    let same : known_front c.in-Known.op c.in_ok-byte.rest.now ≡ entry_front c.args.bytes.now =
    meant-first c.args.bytes.now c.in_ok-byte.byte.now c.in_ok-byte.rest.now (Known c.in-Known.op)
    c.in_ok-byte.ensures.cases.0 c.in-Known.ensures in
    rw same at c.known_at.ensures
