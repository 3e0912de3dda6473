use Rattle.std.proofs.lemmas.Result.{err_from_is_err_and}
use Rattle.wc_binary.specs.Standard.Externals.{export}
use Rattle.wc_binary.proofs.reading.Times.{times-more, times-fails, times-done}
use Rattle.wc_binary.proofs.decoder.externals.exports.Goals as goal

pub loop-preserved : goal.loop-preserved
loop-preserved g c =
    let adds = c.in_ok-next_export.ensures in
    rw adds.2
    (times-more export c.loop.exports c.args.count c.loop.counter _ _ _ c.loop.invariant c.loop-test.true adds.0 _
    adds.1)

pub returns-in_err-next_export : goal.returns-in_err-next_export
returns-in_err-next_export g c =
    let p = err_from_is_err_and c.from_residual.result c.from_residual.ensures.1 in
    rw (p.1, p.2)
    (times-fails export c.loop.exports c.args.count c.loop.counter _ _ _ c.loop.invariant c.loop-test.true _
    c.in_err-next_export.field-0.0 c.in_err-next_export.ensures)

pub returns : goal.returns
returns g c =
    times-done export c.loop.exports c.args.count c.loop.counter _ _ _ c.loop.invariant c.loop-test.false
