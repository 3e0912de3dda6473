use Rattle.std.proofs.Common.{arith}
use Rattle.std.proofs.lemmas.Result.{err_from_is_err_and}
use Rattle.wc_binary.proofs.reading.Sized.{custom-name-fails, custom-gives}
use Rattle.wc_binary.proofs.decoder.section.custom.Goals as goal

pub returns-in_err-_name : goal.returns-in_err-_name
returns-in_err-_name g c =
    let p = err_from_is_err_and c.from_residual-in_err-_name.result c.from_residual-in_err-_name.ensures.1 in
    rw (p.1, p.2) (custom-name-fails _ _ _ c.in_ok-size.field-0 c.in_ok-size.ensures c.in_err-_name.field-0.0
    c.in_err-_name.ensures)

pub returns : goal.returns
returns g c =
    custom-gives _ _ _ _ c.in_ok-size.field-0 _ c.in_ok-_name._name c.in_ok-size.ensures c.in_ok-_name.ensures
    (omega (arith, c.place-start.ensures)) (omega arith) c.skip.result c.skip.ensures
