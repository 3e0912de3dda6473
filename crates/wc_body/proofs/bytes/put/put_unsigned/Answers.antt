use Rattle.wc_leb128.proofs.Writing.UnsignedShortest.{unsigned_bytes-low}
use Rattle.wc_body.proofs.Packing.PutBytes.{two-bytes}
use Rattle.wc_body.proofs.bytes.put.put_unsigned.Goals as goal

pub returns-then-n-lt128-clause-ok : goal.returns-then-n-lt128-clause-ok
returns-then-n-lt128-clause-ok c = rw (unsigned_bytes-low c.args.n c.if-n-lt128.true) c.put_two.ensures.ok

pub returns-then-n-lt16384-clause-ok : goal.returns-then-n-lt16384-clause-ok
returns-then-n-lt16384-clause-ok c =
    rw (two-bytes c.args.n c.if-n-lt128.false c.if-n-lt16384.true) c.put_three.ensures.ok
