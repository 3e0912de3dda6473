use Rattle.wc_binary.specs.Reading.Reading.{signed_at}
use Rattle.wc_binary.specs.Standard.Instructions.{s64}
use Rattle.wc_binary.proofs.reading.Behind.{byte-then-gives}
use Rattle.wc_binary.proofs.decoder.signed.s64.Goals as goal

pub returns : goal.returns
unfolding s64
returns g c =
    byte-then-gives _ _ _ c.in_ok-first.first c.in_ok-first.ensures (λ x.
    signed_at 64 (g.S.Source.input c.args.source.now).place x) c.signed_from.result
    (rw c.place-at.ensures at c.signed_from.ensures.gives)
