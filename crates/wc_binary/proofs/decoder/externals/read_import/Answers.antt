use Rattle.std.proofs.lemmas.Result.{err_from_is_err_and}
use Rattle.wc_binary.specs.Standard.Values.{name}
use Rattle.wc_binary.specs.Standard.Externals.{import}
use Rattle.wc_binary.proofs.reading.Behind.{behind-fails, first-of}
use Rattle.wc_binary.proofs.decoder.externals.read_import.Goals as goal

pub returns-in_err-name : goal.returns-in_err-name
unfolding import
returns-in_err-name g c =
    let p = err_from_is_err_and c.from_residual-in_err-name.result c.from_residual-in_err-name.ensures.1 in
    rw (p.1, p.2)
    (behind-fails name _ _ _ _ c.in_ok-module.module c.in_ok-module.ensures c.in_err-name.field-0.0
    (first-of _ _ _ _ _ c.in_err-name.ensures))

pub returns-in_err-desc : goal.returns-in_err-desc
unfolding import
returns-in_err-desc g c =
    let p = err_from_is_err_and c.from_residual-in_err-desc.result c.from_residual-in_err-desc.ensures.1 in
    rw (p.1, p.2)
    (behind-fails name _ _ _ _ c.in_ok-module.module c.in_ok-module.ensures c.in_err-desc.field-0.0
    (behind-fails name _ _ _ _ c.in_ok-name.name c.in_ok-name.ensures c.in_err-desc.field-0.0
    (first-of _ _ _ _ _ c.in_err-desc.ensures)))
