use Rattle.std.proofs.Math.Facts.{Fits-of_lt}
use Rattle.wc_body.proofs.Packing.Integers.{unsigned-same, unsigned-held}
use Rattle.wc_body.proofs.bytes.number.long_u32_at.Goals as goal

pub overflow_cast-result : goal.overflow_cast-result
overflow_cast-result c =
    Fits-of_lt (unsigned-held 32 _ _ _ c.unsigned_at.ensures c.in_ok-n.was)

pub returns-in_err-n : goal.returns-in_err-n
returns-in_err-n c = rw c.from_residual.ensures
    (rw c.in_err-n.was at (unsigned-same 32 c.args.bytes.now c.unsigned_at.result c.unsigned_at.ensures))

pub returns : goal.returns
returns c = rw c.in_ok-n.was at (unsigned-same 32 c.args.bytes.now c.unsigned_at.result c.unsigned_at.ensures)
