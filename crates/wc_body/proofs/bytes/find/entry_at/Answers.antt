use Rattle.wc_body.proofs.Packing.Unpacking.{meant-first}
use Rattle.wc_body.proofs.bytes.find.entry_at.Goals as goal

pub returns : goal.returns
returns c =
    rw (meant-first c.args.bytes.now c.in_ok-byte.byte.now c.in_ok-byte.rest.now c.of_byte.result
    c.in_ok-byte.ensures.cases.0 c.of_byte.ensures) at c.meant_at.ensures
