use Rattle.std.proofs.lemmas.Result.{err_from_is_err_and}
use Rattle.wc_binary.proofs.reading.Going.{byte-fails}
use Rattle.wc_binary.proofs.reading.Times.{skip-end, skip-round, skip-done}
use Rattle.wc_binary.proofs.decoder.section.skip.Goals as goal

pub returns-in_err-_byte : goal.returns-in_err-_byte
returns-in_err-_byte g c =
    let i = c.loop-left.invariant in
    let p = err_from_is_err_and c.from_residual.result c.from_residual.ensures.1 in
    rw (p.1, p.2) (byte-fails _ _ _ i.going c.in_err-_byte.field-0.0 c.in_err-_byte.ensures _
    (skip-end _ _ _ c.loop-left.left c.loop-left-test.true i))

pub loop-left-preserved : goal.loop-left-preserved
loop-left-preserved g c =
    let i = c.loop-left.invariant in
    skip-round c.loop-left.left _ _ _ _ c.loop-left-test.true i c.in_ok-_byte._byte c.in_ok-_byte.ensures _ _
    c.pass-left.ensures.passed

pub returns : goal.returns
returns g c = skip-done c.loop-left.left _ _ _ c.loop-left.invariant c.loop-left-test.false
