use Rattle.std.proofs.Common.{◌<◌, suc, length, refl}
use Rattle.wc_body.specs.Standard.Needed.{nothing}
use Rattle.wc_body.proofs.Drafts.Runs.FrontRun.{fronted-shorter}
use Rattle.wc_body.proofs.runs.front.after_marks.Goals as goal

pub marks-init : goal.marks-init
marks-init c = (0, (refl, refl))

pub marks-smaller : goal.marks-smaller
marks-smaller c =
    let h = c.in-Some.ensures.some nothing in
    let shorter : length c.in-Some.behind.now < length c.marks.rest.now = fronted-shorter _ _ h.0 h.1 in
    shorter

pub marks-preserved : goal.marks-preserved
marks-preserved c =
    let i = c.marks.invariant in
    (suc i.0, (_, _, i.1, c.in-Some.ensures.some))

pub returns : goal.returns
returns c = rw (c.in_default.ensures.none refl) c.marks.invariant
