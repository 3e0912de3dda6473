use Rattle.std.proofs.Common.{arith}
use Rattle.std.proofs.lemmas.List.{length-append}
use Rattle.std.proofs.lemmas.Result.{err_from_is_err_and}
use Rattle.wc_binary.proofs.reading.Times.{times-more, times-fails, times-done}
use Rattle.wc_binary.proofs.decoder.vector.times.Goals as goal

pub loop-preserved : goal.loop-preserved
loop-preserved g c = record {
  counted = rw (c.in_ok-push.ensures.ok, length-append) (omega (arith, c.loop.invariant.counted));
  leads = rw c.in_ok-push.ensures.ok (times-more g.V.FromSource.phrase c.loop.values c.args.count c.loop.counter _ _ _
      c.loop.invariant.leads c.loop-test.true c.in_ok-read.field-0 _ c.in_ok-read.ensures);
}

pub returns-in_err-read-clause-gives : goal.returns-in_err-read-clause-gives
returns-in_err-read-clause-gives g c =
    let p = err_from_is_err_and c.from_residual.result c.from_residual.ensures.1 in
    rw (p.1, p.2) (times-fails g.V.FromSource.phrase c.loop.values c.args.count c.loop.counter _ _ _
    c.loop.invariant.leads c.loop-test.true _ c.in_err-read.field-0.0 c.in_err-read.ensures)

pub returns-clause-gives : goal.returns-clause-gives
returns-clause-gives g c =
    times-done g.V.FromSource.phrase c.loop.values c.args.count c.loop.counter _ _ _ c.loop.invariant.leads
    c.loop-test.false
