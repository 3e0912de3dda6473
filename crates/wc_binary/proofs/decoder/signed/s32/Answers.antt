use Rattle.std.proofs.Common.{Err}
use Rattle.std.proofs.lemmas.Result.{err_from_is_err_and}
use Rattle.wc_binary.specs.Reading.Reading.{signed_at}
use Rattle.wc_binary.specs.Standard.Instructions.{s32}
use Rattle.wc_binary.proofs.reading.Behind.{byte-then-gives}
use Rattle.wc_binary.proofs.decoder.signed.s32.Goals as goal

pub returns-in_err-n : goal.returns-in_err-n
unfolding s32
returns-in_err-n g c =
    let p = err_from_is_err_and c.from_residual-in_err-n.result c.from_residual-in_err-n.ensures.1 in
    rw (p.1, p.2) (byte-then-gives _ _ _ c.in_ok-first.first c.in_ok-first.ensures (λ x.
    signed_at 32 (g.S.Source.input c.args.source.now).place x)
    (Err c.in_err-n.field-0.0) (rw c.place-at.ensures at c.in_err-n.ensures.gives))
