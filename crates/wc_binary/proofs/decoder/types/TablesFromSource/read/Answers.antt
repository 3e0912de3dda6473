use Rattle.std.proofs.lemmas.Result.{err_from_is_err_and}
use Rattle.wc_binary.specs.Standard.Values.{u32, vector}
use Rattle.wc_binary.proofs.reading.Behind.{behind-fails}
use Rattle.wc_binary.proofs.decoder.types.TablesFromSource.read.Goals as goal

pub returns-in_err-limits : goal.returns-in_err-limits
unfolding vector
returns-in_err-limits g c =
    let p = err_from_is_err_and c.from_residual-in_err-limits.result c.from_residual-in_err-limits.ensures.1 in
    rw (p.1, p.2)
    (behind-fails u32 _ _ _ _ c.in_ok-count.count c.in_ok-count.ensures c.in_err-limits.field-0.0
    c.in_err-limits.ensures)
