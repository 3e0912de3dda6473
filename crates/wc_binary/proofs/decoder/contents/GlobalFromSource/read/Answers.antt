use Rattle.std.proofs.lemmas.Result.{err_from_is_err_and}
use Rattle.wc_binary.specs.Standard.Types.{global_type}
use Rattle.wc_binary.specs.Standard.Contents.{global}
use Rattle.wc_binary.proofs.reading.Behind.{behind-fails, first-of}
use Rattle.wc_binary.proofs.decoder.contents.GlobalFromSource.read.Goals as goal

pub returns-in_err-init : goal.returns-in_err-init
unfolding global
returns-in_err-init g c =
    let p = err_from_is_err_and c.from_residual-in_err-init.result c.from_residual-in_err-init.ensures.1 in
    rw (p.1, p.2)
    (behind-fails global_type _ _ _ _ c.in_ok-ty.ty c.in_ok-ty.ensures c.in_err-init.field-0.0
    (first-of _ _ _ _ _ c.in_err-init.ensures))
