use Rattle.std.proofs.Common.{arith}
use Rattle.wc_binary.proofs.reading.ahead.Feeding.{each-byte}
use Rattle.wc_binary.proofs.byte_range.are_bytes.Goals as goal

pub returns : goal.returns
returns c = each-byte c.args.bytes.now (λ k. omega (arith, c.type_inv.bytes k))
