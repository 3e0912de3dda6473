use Rattle.std.proofs.Common.{arith}
use Rattle.std.proofs.lemmas.Result.{err_from_is_err_and}
use Rattle.wc_binary.proofs.reading.Locals.{group-fails}
use Rattle.wc_binary.proofs.decoder.locals.group.Goals as goal

pub returns-in_err-value_type-clause-gives : goal.returns-in_err-value_type-clause-gives
returns-in_err-value_type-clause-gives g c =
    let p = err_from_is_err_and c.from_residual-in_err-value_type.result c.from_residual-in_err-value_type.ensures.1 in
    rw (p.1, p.2) (group-fails c.args.total c.in_ok-count.count _ _ _ c.in_ok-count.ensures (omega arith)
    c.in_err-value_type.field-0.0 c.in_err-value_type.ensures)
