use Rattle.std.proofs.lemmas.Result.{err_from_is_err_and}
use Rattle.wc_binary.specs.Standard.Locals.{locals}
use Rattle.wc_binary.specs.Standard.Contents.{func}
use Rattle.wc_binary.proofs.reading.Behind.{behind-fails, first-of}
use Rattle.wc_binary.proofs.decoder.code.func.Goals as goal

pub returns-in_err-body : goal.returns-in_err-body
unfolding func
returns-in_err-body g c =
    let p = err_from_is_err_and c.from_residual-in_err-body.result c.from_residual-in_err-body.ensures.1 in
    rw (p.1, p.2)
    (behind-fails locals _ _ _ _ c.in_ok-locals.locals c.in_ok-locals.ensures c.in_err-body.field-0.0
    (first-of _ _ _ _ _ c.in_err-body.ensures))
