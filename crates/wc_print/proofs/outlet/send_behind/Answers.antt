use Rattle.std.proofs.Common.{◌∙◌, sym}
use Rattle.wc_print.proofs.Writing.Flowing.{asked-last, asked-on, cut-off, lost, sent-on}
use Rattle.wc_print.proofs.outlet.send_behind.Goals as goal

pub returns-in-Ok-clause-flows : goal.returns-in-Ok-clause-flows
returns-in-Ok-clause-flows g c = λ first said h.
    let e = c.in-Ok.ensures in
    sent-on _ _ first _ _ _ _ _ said (sym c.failed.ensures ∙ c.if-failed.false) e.goes_on h e.bytes e.total

pub returns-in-Err-clause-flows : goal.returns-in-Err-clause-flows
returns-in-Err-clause-flows g c = λ first said h.
    let e = c.in-Err.ensures in
    cut-off _ _ first _ _ _ _ _ said (sym c.failed.ensures ∙ c.if-failed.false) e.fails h e.front e.short

pub returns-then-failed-clause-flows : goal.returns-then-failed-clause-flows
returns-then-failed-clause-flows g c = λ first said h.
    lost _ first _ _ _ said (sym c.failed.ensures ∙ c.if-failed.true) h

pub returns-in-Ok-clause-calls : goal.returns-in-Ok-clause-calls
returns-in-Ok-clause-calls g c = λ first h.
    let e = c.in-Ok.ensures in
    asked-on first _ _ _ _ _ (sym c.failed.ensures ∙ c.if-failed.false) e.goes_on e.total e.again e.flushes
    e.unflushed e.lost h

pub returns-in-Err-clause-calls : goal.returns-in-Err-clause-calls
returns-in-Err-clause-calls g c = λ first h.
    let e = c.in-Err.ensures in
    asked-last first _ _ _ _ _ (sym c.failed.ensures ∙ c.if-failed.false) e.fails e.short e.again e.flushes e.unflushed
    e.lost_behind h
