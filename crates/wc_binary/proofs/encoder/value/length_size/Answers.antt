use Rattle.std.proofs.Common.{◌<◌, ◌^◌, lit≤, arith}
use Rattle.wc_leb128.proofs.Writing.Lengths.{length-unsigned_bytes-below}
use Rattle.wc_binary.proofs.encoder.value.length_size.Goals as goal

pub returns : goal.returns
returns c =
    let n = c.args.length in
    let fits : n < 2 ^ 32 = omega arith in
    let short = length-unsigned_bytes-below 5 n (lit≤ tt) (omega arith) in
    (fits, c.u32_size.ensures, omega (arith, c.u32_size.ensures, short))
