use Rattle.std.proofs.lemmas.Result.{err_from_is_err_and}
use Rattle.wc_binary.proofs.reading.Times.{exactly-more, exactly-fails, exactly-done}
use Rattle.wc_binary.proofs.decoder.module.exactly.Goals as goal

pub returns-in_err-only : goal.returns-in_err-only
returns-in_err-only g c =
    let p = err_from_is_err_and c.from_residual.result c.from_residual.ensures.1 in
    rw (p.1, p.2) (exactly-fails c.args.bytes.now c.args.why c.loop-b.b-index _ _ _ c.loop-b.invariant
    c.loop-b-test.true _
    c.in_err-only.field-0.0 c.in_err-only.ensures)

pub loop-b-preserved : goal.loop-b-preserved
loop-b-preserved g c =
    exactly-more c.args.bytes.now c.args.why c.loop-b.b-index _ _ _ c.loop-b.invariant c.loop-b-test.true _
    c.in_ok-only.ensures

pub returns : goal.returns
returns g c =
    exactly-done c.args.bytes.now c.args.why c.loop-b.b-index _ _ _ c.loop-b.invariant c.loop-b-test.false
