use Rattle.std.proofs.lemmas.Result.{err_from_is_err_and}
use Rattle.wc_check.specs.Standard.Broken.{broken_elem}
use Rattle.wc_check.proofs.Lists.VerdictLemmas.{each-fails, judged-fails}
use Rattle.wc_check.proofs.segments.check_elems.Goals as goal

pub returns-in_err-judge : goal.returns-in_err-judge
returns-in_err-judge c =
    let p = err_from_is_err_and c.from_residual.result c.from_residual.ensures.1 in
    let m = c.args.module.now in let items = c.as_slice-elem-items.ensures in let e = c.elem-item.result in
    rw (p.1, p.2)
    (each-fails (broken_elem m) c.loop-place.place c.loop-place.place m.elems e e _ c.in_err-judge.field-0.0
    (rw items at c.loop-place-test.true) (rw items at c.elem-item.is) c.loop-place.invariant
    (judged-fails _ _ _ _ c.in_err-judge.ensures (rw c.requires at c.elem_rule.ensures)))
