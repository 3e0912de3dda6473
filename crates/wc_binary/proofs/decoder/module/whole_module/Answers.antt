use Rattle.std.proofs.Common.{arith}
use Rattle.std.proofs.lemmas.Result.{err_from_is_err_and}
use Rattle.wc_binary.proofs.reading.Whole.{preamble-fails, sections-fail, counts-fail, module-whole}
use Rattle.wc_binary.proofs.decoder.module.whole_module.Goals as goal

pub returns-in_err-preamble : goal.returns-in_err-preamble
returns-in_err-preamble g c =
    let p = err_from_is_err_and c.from_residual.result c.from_residual.ensures.1 in
    rw (p.1, p.2) (preamble-fails _ _ c.requires c.in_err-preamble.field-0.0 c.in_err-preamble.ensures)

pub returns-in_err-parts : goal.returns-in_err-parts
returns-in_err-parts g c =
    let p = err_from_is_err_and c.from_residual-in_err-parts.result c.from_residual-in_err-parts.ensures.1 in
    rw (p.1, p.2)
    (sections-fail _ _ _ c.requires tt c.in_ok-preamble.ensures c.in_err-parts.field-0.0 c.in_err-parts.ensures)

pub returns-then-len : goal.returns-then-len
returns-then-len g c =
    rw c.place.ensures
    (counts-fail _ _ _ c.requires tt c.in_ok-preamble.ensures c.in_ok-parts.parts c.in_ok-parts.ensures
    (λ e. absurd (omega (arith, e, c.len.ensures, c.len-2.ensures, c.if-len.true))))

pub returns : goal.returns
returns g c =
    module-whole _ _ _ c.requires tt c.in_ok-preamble.ensures c.in_ok-parts.parts c.in_ok-parts.ensures
    c.into_module.result c.into_module.ensures
