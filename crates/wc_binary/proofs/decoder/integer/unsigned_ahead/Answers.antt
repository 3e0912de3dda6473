use Rattle.std.proofs.Common.{◌≡◌, ◌-◌, length, refl, arith}
use Rattle.wc_leb128.proofs.Reading.ShortFront.{found-front}
use Rattle.wc_binary.proofs.reading.integers.Rests.{rest-taken, rest-within}
use Rattle.wc_binary.proofs.decoder.integer.unsigned_ahead.Goals as goal

pub overflow_sub-count : goal.overflow_sub-count
overflow_sub-count g c =
    let ahead = c.in_ok-ahead.ensures.ahead in
    let front = rw c.in_ok-n.was at (found-front 32 _ _ c.u32_behind.ensures) in
    omega (arith, rest-within 32 _ _ _ _ front, ahead.0)

pub returns : goal.returns
returns g c =
    let ahead = c.in_ok-ahead.ensures.ahead in
    let front = rw c.in_ok-n.was at (found-front 32 _ _ c.u32_behind.ensures) in
    let within = rest-within 32 _ _ _ _ front in
    let all : c.pass.result ≡ 4 - length c.in_ok-n.rest.now =
    omega (arith, c.pass.ensures.amount, c.in_ok-ahead.ensures.variant.0 refl) in
    rest-taken 32 _ _ _ _ _ _ 4 _ ahead front (omega (arith, within, ahead.0)) (rw all at c.pass.ensures.passed)
