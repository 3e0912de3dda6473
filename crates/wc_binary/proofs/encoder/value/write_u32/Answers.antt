use Rattle.std.proofs.Common.{refl}
use Rattle.wc_leb128.proofs.Writing.UnsignedShortest.{unsigned_bytes-low}
use Rattle.wc_binary.proofs.encoder.value.write_u32.Goals as goal

pub returns-then-n-lt128 : goal.returns-then-n-lt128
returns-then-n-lt128 c = rw (c.in_ok-push.ensures.items, unsigned_bytes-low c.args.n c.if-n-lt128.true) refl
