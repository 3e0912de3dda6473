use Rattle.wc_leb128.proofs.Writing.SignedShortest.{signed_bytes-low}
use Rattle.wc_body.proofs.Packing.PutBytes.{signed-two}
use Rattle.wc_body.proofs.bytes.put.put_groups.Goals as goal

pub returns-then-bits-lt64-clause-ok : goal.returns-then-bits-lt64-clause-ok
returns-then-bits-lt64-clause-ok c =
    rw (signed_bytes-low c.args.negative c.args.bits c.if-bits-lt64.true, ← c.group.ensures) c.put_two.ensures.ok

pub returns-clause-ok : goal.returns-clause-ok
returns-clause-ok c =
    rw (
      signed-two c.args.negative c.args.bits c.if-bits-lt64.false c.requires,
      ← c.group-first.ensures,
      ← c.group-2.ensures,
    ) c.put_three.ensures.ok
