use Rattle.std.proofs.Common.{sym}
use Rattle.std.proofs.lemmas.Result.{err_from_is_err_and}
use Rattle.wc_binary.proofs.reading.Whole.{finds-fails, finds-all, finds-no-id, content-fails, finds-more}
use Rattle.wc_binary.proofs.decoder.module.sections.Goals as goal

pub returns-in_err-next : goal.returns-in_err-next
returns-in_err-next g c =
    let p = err_from_is_err_and c.from_residual.result c.from_residual.ensures.1 in
    rw (p.1, p.2) (finds-fails _ _ _ _ _ c.loop-parts.invariant c.in_err-next.field-0.0 c.in_err-next.ensures)

pub returns-in-None : goal.returns-in-None
returns-in-None g c =
    let s = rw c.in-None.is at c.in_ok-next.ensures in
    finds-all _ _ _ _ _ c.loop-parts.invariant s

pub returns-in-Err : goal.returns-in-Err
returns-in-Err g c =
    let s = rw c.in-Some.is at c.in_ok-next.ensures in
    rw (c.bad.ensures, c.place-at.ensures)
    (finds-no-id _ _ _ _ _ c.loop-parts.invariant c.in-Some.byte s c.in-Err.why (sym c.in-Err.ensures))

pub returns-in_err-section : goal.returns-in_err-section
returns-in_err-section g c =
    let s = rw c.in-Some.is at c.in_ok-next.ensures in
    let p = err_from_is_err_and c.from_residual-in_err-section.result c.from_residual-in_err-section.ensures.1 in
    rw (p.1, p.2)
    (content-fails _ _ _ _ _ c.loop-parts.invariant c.in-Some.byte s c.in-Ok.kind (sym c.in-Ok.ensures) _
    c.in_err-section.field-0.0 c.in_err-section.ensures)

pub loop-parts-preserved : goal.loop-parts-preserved
loop-parts-preserved g c =
    let s = rw c.in-Some.is at c.in_ok-next.ensures in
    let more = finds-more _ _ _ _ _ c.loop-parts.invariant c.in-Some.byte s c.in-Ok.kind
    (sym c.in-Ok.ensures) c.in_ok-section.section _ c.in_ok-section.ensures in
    rw (c.max-last.ensures, c.id.ensures, c.kind.ensures, c.put.ensures) more
