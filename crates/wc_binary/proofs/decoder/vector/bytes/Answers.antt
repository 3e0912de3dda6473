use Rattle.std.proofs.Common.{arith, ◌<◌, ◌≤◌, length}
use Rattle.std.proofs.lemmas.Result.{err_from_is_err_and}
use Rattle.wc_binary.proofs.reading.Going.{byte-fails}
use Rattle.wc_binary.proofs.reading.Times.{times-end, times-round, times-done}
use Rattle.wc_binary.specs.Standard.Values.{any_byte}
use Rattle.wc_binary.proofs.decoder.vector.bytes.Goals as goal

pub returns-in_err-byte-clause-gives : goal.returns-in_err-byte-clause-gives
returns-in_err-byte-clause-gives g c =
    let i = c.loop-source.invariant.leads in
    let lt : length c.loop-source.bytes.items < c.args.count =
    omega (arith, c.loop-source.bytes.ok.0, rw c.len.ensures at c.loop-source-test.true) in
    let p = err_from_is_err_and c.from_residual-in_err-byte.result c.from_residual-in_err-byte.ensures.1 in
    rw (p.1, p.2) (byte-fails _ _ _ i.going c.in_err-byte.field-0.0 c.in_err-byte.ensures _
    (times-end _ c.args.count _ _ _ i lt))

pub loop-source-preserved : goal.loop-source-preserved
loop-source-preserved g c =
    let lt : length c.loop-source.bytes.items < c.args.count =
    omega (arith, c.loop-source.bytes.ok.0, rw c.len.ensures at c.loop-source-test.true) in
    let t = c.in_ok-take.ensures.taken in
    let r = times-round _ c.args.count _ _ _ _ c.loop-source.invariant.leads lt c.in_ok-byte.byte c.in_ok-byte.ensures
    _ c.in_ok-push.ensures.items _ t.0 _ t.1
    (omega (arith, t.2, c.len-in-loop-source.ensures, c.push.new.self.ok.0)) t.3 in
    record { counted = r.0; leads = r.1 }

pub returns-clause-gives : goal.returns-clause-gives
returns-clause-gives g c =
    let le : c.args.count ≤ length c.loop-source.bytes.items =
    omega (arith, rw c.len.ensures at c.loop-source-test.false) in
    rw c.from_vec.ensures (times-done any_byte c.loop-source.bytes.items c.args.count (length c.loop-source.bytes.items)
    _
    _ _ c.loop-source.invariant.leads le)
