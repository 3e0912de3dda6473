use Rattle.std.proofs.lemmas.Result.{err_from_is_err_and}
use Rattle.wc_binary.specs.Standard.Values.{u32}
use Rattle.wc_binary.specs.Standard.Instructions.{follows}
use Rattle.wc_binary.proofs.reading.Behind.{behind-fails, first-of}
use Rattle.wc_binary.proofs.decoder.immediates.memory.Goals as goal

pub returns-in_err-offset : goal.returns-in_err-offset
unfolding follows
returns-in_err-offset g c =
    let p = err_from_is_err_and c.from_residual-in_err-offset.result c.from_residual-in_err-offset.ensures.1 in
    rw (p.1, p.2)
    (behind-fails u32 _ _ _ _ c.in_ok-align.align c.in_ok-align.ensures c.in_err-offset.field-0.0
    (first-of _ _ _ _ _ c.in_err-offset.ensures))
