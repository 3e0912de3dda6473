use Rattle.std.proofs.lemmas.Result.{err_from_is_err_and}
use Rattle.wc_binary.proofs.reading.Sized.{sized-fails}
use Rattle.wc_binary.proofs.decoder.section.sized.Goals as goal

pub returns-in_err-value : goal.returns-in_err-value
returns-in_err-value g c =
    let p = err_from_is_err_and c.from_residual-in_err-value.result c.from_residual-in_err-value.ensures.1 in
    rw (p.1, p.2) (sized-fails c.args.why g.V.FromSource.phrase _ _ _ c.in_ok-size.size c.in_ok-size.ensures
    c.in_err-value.field-0.0 c.in_err-value.ensures)
