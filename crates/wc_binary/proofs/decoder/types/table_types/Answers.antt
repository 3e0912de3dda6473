use Rattle.std.proofs.lemmas.Result.{err_from_is_err_and}
use Rattle.wc_binary.specs.Standard.Types.{table_type}
use Rattle.wc_binary.proofs.reading.Times.{times-more, times-fails, times-done}
use Rattle.wc_binary.proofs.decoder.types.table_types.Goals as goal

pub loop-preserved : goal.loop-preserved
loop-preserved g c =
    rw c.in_ok-push.ensures.ok
    (times-more table_type c.loop.tables c.args.count c.loop.counter _ _ _ c.loop.invariant c.loop-test.true
    c.in_ok-table_type.field-0 _ c.in_ok-table_type.ensures)

pub returns-in_err-table_type : goal.returns-in_err-table_type
returns-in_err-table_type g c =
    let p = err_from_is_err_and c.from_residual.result c.from_residual.ensures.1 in
    rw (p.1, p.2)
    (times-fails table_type c.loop.tables c.args.count c.loop.counter _ _ _ c.loop.invariant c.loop-test.true _
    c.in_err-table_type.field-0.0 c.in_err-table_type.ensures)

pub returns : goal.returns
returns g c =
    times-done table_type c.loop.tables c.args.count c.loop.counter _ _ _ c.loop.invariant c.loop-test.false
