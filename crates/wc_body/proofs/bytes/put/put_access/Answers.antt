use Rattle.wc_leb128.proofs.Writing.UnsignedShortest.{unsigned_bytes-low}
use Rattle.wc_body.proofs.Packing.PutBytes.{two-bytes}
use Rattle.wc_body.proofs.bytes.put.put_access.Goals as goal

pub returns-then-arg-lt128-2-clause-ok : goal.returns-then-arg-lt128-2-clause-ok
returns-then-arg-lt128-2-clause-ok c =
    rw (
      unsigned_bytes-low c.args.arg.align c.if-arg-lt128.true,
      unsigned_bytes-low c.args.arg.offset c.if-arg-lt128-2.true,
      ← c.byte.ensures,
    ) c.put_three.ensures.ok

pub returns-then-arg-lt16384-clause-ok : goal.returns-then-arg-lt16384-clause-ok
returns-then-arg-lt16384-clause-ok c =
    rw (
      unsigned_bytes-low c.args.arg.align c.if-arg-lt128.true,
      two-bytes c.args.arg.offset c.if-arg-lt128-2.false c.if-arg-lt16384.true,
      ← c.byte-then-arg-lt16384.ensures,
    ) c.put_four.ensures.ok
