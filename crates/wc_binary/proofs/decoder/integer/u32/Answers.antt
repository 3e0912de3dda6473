use Rattle.std.proofs.Common.{Ok}
use Rattle.wc_binary.specs.Reading.Reading.{unsigned_at}
use Rattle.wc_binary.proofs.reading.Behind.{byte-then-gives}
use Rattle.wc_binary.proofs.reading.integers.Rests.{rest-gives}
use Rattle.wc_binary.specs.Standard.Values.{u32}
use Rattle.wc_binary.proofs.decoder.integer.u32.Goals as goal

pub returns-in-Some-unsigned_ahead : goal.returns-in-Some-unsigned_ahead
unfolding u32
returns-in-Some-unsigned_ahead g c =
    let start = (g.S.Source.input c.args.source.now).place in
    let n = c.in-Some-unsigned_ahead.n in
    let taken = rw c.in-Some-unsigned_ahead.is at c.unsigned_ahead.ensures in
    byte-then-gives _ _ _ c.in_ok-first.first c.in_ok-first.ensures (λ x. unsigned_at 32 start x) (Ok n)
    (rest-gives 32 start _ n _ _ c.in_ok-first.ensures.1 taken)

pub returns-in-None-unsigned_ahead : goal.returns-in-None-unsigned_ahead
unfolding u32
returns-in-None-unsigned_ahead g c =
    let start = (g.S.Source.input c.args.source.now).place in
    let same = rw c.in-None-unsigned_ahead.is at c.unsigned_ahead.ensures in
    byte-then-gives _ _ _ c.in_ok-first.first c.in_ok-first.ensures (λ x. unsigned_at 32 start x) c.unsigned_from.result
    (rw (c.place-at.ensures, same) at c.unsigned_from.ensures)
