use Rattle.std.proofs.lemmas.Result.{err_from_is_err_and}
use Rattle.wc_binary.specs.Standard.Externals.{import}
use Rattle.wc_binary.proofs.reading.Times.{times-more, times-fails, times-done}
use Rattle.wc_binary.proofs.decoder.externals.imports.Goals as goal

pub loop-preserved : goal.loop-preserved
loop-preserved g c =
    let adds = c.in_ok-next_import.ensures in
    rw adds.2
    (times-more import c.loop.imports c.args.count c.loop.counter _ _ _ c.loop.invariant c.loop-test.true adds.0 _
    adds.1)

pub returns-in_err-next_import : goal.returns-in_err-next_import
returns-in_err-next_import g c =
    let p = err_from_is_err_and c.from_residual.result c.from_residual.ensures.1 in
    rw (p.1, p.2)
    (times-fails import c.loop.imports c.args.count c.loop.counter _ _ _ c.loop.invariant c.loop-test.true _
    c.in_err-next_import.field-0.0 c.in_err-next_import.ensures)

pub returns : goal.returns
returns g c =
    times-done import c.loop.imports c.args.count c.loop.counter _ _ _ c.loop.invariant c.loop-test.false
