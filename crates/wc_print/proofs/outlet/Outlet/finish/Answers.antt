use Rattle.std.proofs.Common.{◌∙◌, sym}
use Rattle.wc_print.proofs.Writing.Flowing.{emptied, failed-end, flushed-again, flushed-behind, flushed-end}
use Rattle.wc_print.proofs.Writing.Flowing.{flushed-once, not-flushed, unflushed-end}
use Rattle.wc_print.proofs.outlet.Outlet.finish.Goals as goal

pub returns-in-Ok-clause-sent : goal.returns-in-Ok-clause-sent
returns-in-Ok-clause-sent g c = λ first said h.
    flushed-end _ _ _ _ _ said (sym c.failed.ensures ∙ c.if-failed.false)
    (emptied _ first _ said c.empty.ensures.none (c.empty.ensures.says.all first said h)) c.in-Ok.ensures.bytes

pub returns-in-Err-clause-sent : goal.returns-in-Err-clause-sent
returns-in-Err-clause-sent g c = λ first said h.
    unflushed-end _ _ _ _ _ said (sym c.failed.ensures ∙ c.if-failed.false)
    (emptied _ first _ said c.empty.ensures.none (c.empty.ensures.says.all first said h)) c.in-Err.ensures.bytes

pub returns-then-failed-clause-sent : goal.returns-then-failed-clause-sent
returns-then-failed-clause-sent g c = λ first said h.
    failed-end _ _ _ _ said (sym c.failed.ensures ∙ c.if-failed.true)
    (emptied _ first _ said c.empty.ensures.none (c.empty.ensures.says.all first said h))

-- ---- what the writer was asked for

pub returns-in-Ok-clause-again : goal.returns-in-Ok-clause-again
returns-in-Ok-clause-again g c = λ first said h.
    flushed-again first.device.now _ _ _ (sym c.failed.ensures ∙ c.if-failed.false) c.in-Ok.ensures.again
    (c.empty.ensures.says.all first said h).calls

pub returns-in-Err-clause-again : goal.returns-in-Err-clause-again
returns-in-Err-clause-again g c = λ first said h.
    flushed-again first.device.now _ _ _ (sym c.failed.ensures ∙ c.if-failed.false) c.in-Err.ensures.again
    (c.empty.ensures.says.all first said h).calls

pub returns-then-failed-clause-again : goal.returns-then-failed-clause-again
returns-then-failed-clause-again g c = λ first said h. (c.empty.ensures.says.all first said h).calls.again

pub returns-in-Ok-clause-flushed : goal.returns-in-Ok-clause-flushed
returns-in-Ok-clause-flushed g c = λ first said h.
    flushed-once first.device.now _ _ _ _ _ (sym c.failed.ensures ∙ c.if-failed.false) c.in-Ok.ensures.flushed
    (c.empty.ensures.says.all first said h).calls

pub returns-in-Err-clause-flushed_behind_all : goal.returns-in-Err-clause-flushed_behind_all
returns-in-Err-clause-flushed_behind_all g c = λ first said h.
    let has = c.empty.ensures.says.all first said h in
    flushed-behind first.device.now _ _ _ _ _ _ _ said (sym c.failed.ensures ∙ c.if-failed.false)
    (emptied _ first _ said c.empty.ensures.none has) c.in-Err.ensures.flushed has.calls

pub returns-then-failed-clause-flushed_behind_all : goal.returns-then-failed-clause-flushed_behind_all
returns-then-failed-clause-flushed_behind_all g c = λ first said h.
    let has = c.empty.ensures.says.all first said h in
    not-flushed first.device.now _ _ _ _ said (sym c.failed.ensures ∙ c.if-failed.true)
    (emptied _ first _ said c.empty.ensures.none has) has.calls
