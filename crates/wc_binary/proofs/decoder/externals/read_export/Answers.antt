use Rattle.std.proofs.lemmas.Result.{err_from_is_err_and}
use Rattle.wc_binary.specs.Standard.Values.{name}
use Rattle.wc_binary.specs.Standard.Externals.{kind, export}
use Rattle.wc_binary.proofs.reading.Behind.{behind-fails, first-of}
use Rattle.wc_binary.proofs.decoder.externals.read_export.Goals as goal

pub returns-in_err-kind : goal.returns-in_err-kind
unfolding export
returns-in_err-kind g c =
    let p = err_from_is_err_and c.from_residual-in_err-kind.result c.from_residual-in_err-kind.ensures.1 in
    rw (p.1, p.2)
    (behind-fails name _ _ _ _ c.in_ok-name.name c.in_ok-name.ensures c.in_err-kind.field-0.0
    (first-of _ _ _ _ _ c.in_err-kind.ensures))

pub returns-in_err-index : goal.returns-in_err-index
unfolding export
returns-in_err-index g c =
    let p = err_from_is_err_and c.from_residual-in_err-index.result c.from_residual-in_err-index.ensures.1 in
    rw (p.1, p.2)
    (behind-fails name _ _ _ _ c.in_ok-name.name c.in_ok-name.ensures c.in_err-index.field-0.0
    (behind-fails kind _ _ _ _ c.in_ok-kind.kind c.in_ok-kind.ensures c.in_err-index.field-0.0
    (first-of _ _ _ _ _ c.in_err-index.ensures)))
