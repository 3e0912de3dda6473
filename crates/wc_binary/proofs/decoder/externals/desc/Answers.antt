use Rattle.std.proofs.lemmas.Result.{err_from_is_err_and}
use Rattle.wc_binary.specs.Standard.Externals.{kind, desc}
use Rattle.wc_binary.proofs.reading.Behind.{behind-fails, first-of}
use Rattle.wc_binary.proofs.decoder.externals.desc.Goals as goal

pub returns-in_err-u32-in-Func : goal.returns-in_err-u32-in-Func
unfolding desc
returns-in_err-u32-in-Func g c =
    let p = err_from_is_err_and c.from_residual-in_err-u32-in-Func.result c.from_residual-in_err-u32-in-Func.ensures.1
    in
    let is = c.in-Func.is in
    rw (p.1, p.2) (behind-fails kind _ _ _ _ c.in_ok-kind.field-0 c.in_ok-kind.ensures c.in_err-u32-in-Func.field-0.0
    (rw is (first-of _ _ _ _ _ c.in_err-u32-in-Func.ensures)))

pub returns-in_err-table_type-in-Table : goal.returns-in_err-table_type-in-Table
unfolding desc
returns-in_err-table_type-in-Table g c =
    let p = err_from_is_err_and c.from_residual-in_err-table_type-in-Table.result
    c.from_residual-in_err-table_type-in-Table.ensures.1 in
    let is = c.in-Table.is in
    rw (p.1, p.2) (behind-fails kind _ _ _ _ c.in_ok-kind.field-0 c.in_ok-kind.ensures
    c.in_err-table_type-in-Table.field-0.0
    (rw is (first-of _ _ _ _ _ c.in_err-table_type-in-Table.ensures)))

pub returns-in_err-read-in-Memory : goal.returns-in_err-read-in-Memory
unfolding desc
returns-in_err-read-in-Memory g c =
    let p = err_from_is_err_and c.from_residual-in_err-read-in-Memory.result
    c.from_residual-in_err-read-in-Memory.ensures.1 in
    let is = c.in-Memory.is in
    rw (p.1, p.2) (behind-fails kind _ _ _ _ c.in_ok-kind.field-0 c.in_ok-kind.ensures c.in_err-read-in-Memory.field-0.0
    (rw is (first-of _ _ _ _ _ c.in_err-read-in-Memory.ensures)))

pub returns-in_err-global_type-in-Global : goal.returns-in_err-global_type-in-Global
unfolding desc
returns-in_err-global_type-in-Global g c =
    let p = err_from_is_err_and c.from_residual-in_err-global_type-in-Global.result
    c.from_residual-in_err-global_type-in-Global.ensures.1 in
    let is = c.in-Global.is in
    rw (p.1, p.2) (behind-fails kind _ _ _ _ c.in_ok-kind.field-0 c.in_ok-kind.ensures
    c.in_err-global_type-in-Global.field-0.0
    (rw is (first-of _ _ _ _ _ c.in_err-global_type-in-Global.ensures)))
