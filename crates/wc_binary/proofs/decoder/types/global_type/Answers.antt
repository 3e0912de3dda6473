use Rattle.std.proofs.lemmas.Result.{err_from_is_err_and}
use Rattle.wc_binary.specs.Standard.Types.{value_type, global_type}
use Rattle.wc_binary.proofs.reading.Behind.{behind-fails, first-of}
use Rattle.wc_binary.proofs.decoder.types.global_type.Goals as goal

pub returns-in_err-mutable : goal.returns-in_err-mutable
unfolding global_type
returns-in_err-mutable g c =
    let p = err_from_is_err_and c.from_residual-in_err-mutable.result c.from_residual-in_err-mutable.ensures.1 in
    rw (p.1, p.2)
    (behind-fails value_type _ _ _ _ c.in_ok-ty.ty c.in_ok-ty.ensures c.in_err-mutable.field-0.0
    (first-of _ _ _ _ _ c.in_err-mutable.ensures))
