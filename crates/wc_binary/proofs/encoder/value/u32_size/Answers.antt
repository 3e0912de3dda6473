use Rattle.std.proofs.Common.{refl}
use Rattle.wc_leb128.proofs.Writing.UnsignedShortest.{unsigned_bytes-low}
use Rattle.wc_binary.proofs.encoder.value.u32_size.Goals as goal

pub returns-then-n-lt128 : goal.returns-then-n-lt128
returns-then-n-lt128 c = rw (unsigned_bytes-low c.args.n c.if-n-lt128.true) refl
