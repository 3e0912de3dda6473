use Rattle.std.proofs.Common.{◌≡◌, ◌-◌, arith}
use Rattle.std.proofs.lemmas.Result.{err_from_is_err_and}
use Rattle.wc_binary.proofs.reading.Locals.{locals-begin, locals-count-fails, groups-more, groups-fail}
use Rattle.wc_binary.proofs.reading.Locals.{groups-done}
use Rattle.wc_binary.proofs.decoder.locals.locals_from.Goals as goal

pub returns-in_err-count : goal.returns-in_err-count
returns-in_err-count g c =
    let p = err_from_is_err_and c.from_residual.result c.from_residual.ensures.1 in
    rw (p.1, p.2) (locals-count-fails _ _ c.in_err-count.field-0.0 c.in_err-count.ensures)

pub loop-init : goal.loop-init
loop-init g c =
    let all : c.in_ok-count.count - 0 ≡ c.in_ok-count.count = omega arith in
    rw (c.clear.ensures, all) (locals-begin _ _ c.in_ok-count.count c.in_ok-count.ensures)

pub loop-preserved : goal.loop-preserved
loop-preserved g c =
    let next = rw c.len.ensures.count at c.in_ok-next.ensures.gives in
    rw c.in-Ok.ensures.ok (groups-more c.loop.locals c.in_ok-count.count c.loop.counter _ _ _ c.loop.invariant
    c.loop-test.true c.in_ok-next.next _ next)

pub returns-in_err-next : goal.returns-in_err-next
returns-in_err-next g c =
    let next = rw c.len.ensures.count at c.in_err-next.ensures.gives in
    let p = err_from_is_err_and c.from_residual-in_err-next.result c.from_residual-in_err-next.ensures.1 in
    rw (p.1, p.2) (groups-fail c.loop.locals c.in_ok-count.count c.loop.counter _ _ _ c.loop.invariant c.loop-test.true
    _
    c.in_err-next.field-0.0 next)

pub returns : goal.returns
returns g c =
    groups-done c.loop.locals c.in_ok-count.count c.loop.counter _ _ _ c.loop.invariant c.loop-test.false
