use Rattle.std.proofs.lemmas.Result.{err_from_is_err_and}
use Rattle.wc_binary.specs.Standard.Values.{u32}
use Rattle.wc_binary.specs.Standard.Instructions.{follows}
use Rattle.wc_binary.proofs.reading.Behind.{behind-fails, first-of}
use Rattle.wc_binary.proofs.decoder.immediates.call_indirect.Goals as goal

pub returns-in_err-zero_byte : goal.returns-in_err-zero_byte
unfolding follows
returns-in_err-zero_byte g c =
    let p = err_from_is_err_and c.from_residual-in_err-zero_byte.result c.from_residual-in_err-zero_byte.ensures.1 in
    rw (p.1, p.2)
    (behind-fails u32 _ _ _ _ c.in_ok-ty.ty c.in_ok-ty.ensures c.in_err-zero_byte.field-0.0
    (first-of _ _ _ _ _ c.in_err-zero_byte.ensures))
