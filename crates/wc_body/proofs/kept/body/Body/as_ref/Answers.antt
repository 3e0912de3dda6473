use Rattle.wc_body.proofs.Packing.BodyRowLemmas.{own-body}
use Rattle.wc_body.proofs.kept.body.Body.as_ref.Goals as goal

pub from_bytes-requires : goal.from_bytes-requires
from_bytes-requires c =
    rw (c.as_slice.ensures.value, c.own.ensures) (own-body c.self.inside.bytes.items c.self.inside.needs
    c.self.invariant)
