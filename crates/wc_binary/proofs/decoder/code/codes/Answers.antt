use Rattle.std.proofs.lemmas.Result.{err_from_is_err_and}
use Rattle.wc_binary.specs.Standard.Contents.{code}
use Rattle.wc_binary.proofs.reading.Times.{times-more, times-fails, times-done}
use Rattle.wc_binary.proofs.decoder.code.codes.Goals as goal

pub loop-preserved : goal.loop-preserved
loop-preserved g c =
    let adds = c.in_ok-spare.ensures in
    rw adds.2
    (times-more code c.loop.codes c.args.count c.loop.counter _ _ _ c.loop.invariant c.loop-test.true adds.0 _ adds.1)

pub returns-in_err-spare : goal.returns-in_err-spare
returns-in_err-spare g c =
    let p = err_from_is_err_and c.from_residual.result c.from_residual.ensures.1 in
    rw (p.1, p.2)
    (times-fails code c.loop.codes c.args.count c.loop.counter _ _ _ c.loop.invariant c.loop-test.true _
    c.in_err-spare.field-0.0 c.in_err-spare.ensures)

pub returns : goal.returns
returns g c =
    times-done code c.loop.codes c.args.count c.loop.counter _ _ _ c.loop.invariant c.loop-test.false
