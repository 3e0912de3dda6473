use Rattle.wc_body.proofs.Packing.PutBytes.{four}
use Rattle.wc_body.proofs.bytes.put.put_four.Goals as goal

pub returns-clause-ok : goal.returns-clause-ok
returns-clause-ok c = rw (
  c.push_reserved-4.ensures.items,
  c.push_reserved-3.ensures.items,
  c.push_reserved-2.ensures.items,
  c.push_reserved.ensures.items,
  c.reserve.ensures.items,
) (four _ _ _ _ _)
