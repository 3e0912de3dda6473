use Rattle.std.proofs.lemmas.Result.{err_from_is_err_and}
use Rattle.wc_binary.specs.declared.fault.BinWhy.TheVariants.{BodySize}
use Rattle.wc_binary.specs.Standard.Contents.{func, code}
use Rattle.wc_binary.proofs.reading.Sized.{sized-fails}
use Rattle.wc_binary.proofs.decoder.code.code.Goals as goal

pub returns-in_err-found : goal.returns-in_err-found
unfolding code
returns-in_err-found g c =
    let p = err_from_is_err_and c.from_residual-in_err-found.result c.from_residual-in_err-found.ensures.1 in
    rw (p.1, p.2) (sized-fails BodySize func _ _ _ c.in_ok-size.size c.in_ok-size.ensures c.in_err-found.field-0.0
    c.in_err-found.ensures)
