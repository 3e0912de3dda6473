use Rattle.wc_body.proofs.Packing.PutBytes.{three}
use Rattle.wc_body.proofs.bytes.put.put_three.Goals as goal

pub returns-clause-ok : goal.returns-clause-ok
returns-clause-ok c = rw (
  c.push_reserved-3.ensures.items,
  c.push_reserved-2.ensures.items,
  c.push_reserved.ensures.items,
  c.reserve.ensures.items,
) (three _ _ _ _)
