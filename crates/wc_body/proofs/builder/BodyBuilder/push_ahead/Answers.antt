use Rattle.wc_body.proofs.Drafts.Runs.FreeRun.{ran-none, ran-front, ran-one, one-shorter, later-shorter, ran-within}
use Rattle.wc_body.proofs.Drafts.Runs.FreeRun.{ran-adds}
use Rattle.std.proofs.Common.{refl}
use Rattle.wc_body.proofs.builder.BodyBuilder.push_ahead.Goals as goal

pub runs-init : goal.runs-init
runs-init c = ran-none _ _

pub runs-smaller-in-Some : goal.runs-smaller-in-Some
runs-smaller-in-Some c =
    one-shorter _ _ c.runs.rest.now c.in-Some.behind.now c.in-Some.ensures.some

pub runs-preserved-in-Some : goal.runs-preserved-in-Some
runs-preserved-in-Some c = ran-one _ _ _ _ _ c.runs.invariant _ c.in-Some.ensures.some

pub runs-smaller : goal.runs-smaller
runs-smaller c =
    later-shorter _ _ c.push_others-count.result c.runs.rest.now c.in-Some-push_wide.behind.now
    c.in-Some-push_wide.ensures.some

pub runs-preserved : goal.runs-preserved
runs-preserved c =
    let light = rw (← (c.in_default.ensures.none refl)) at c.runs.invariant in
    let front = ran-front _ _ _ _ _ light _ c.push_others-count.ensures in
    ran-one _ _ _ _ _ front _ c.in-Some-push_wide.ensures.some

pub overflow_sub-result : goal.overflow_sub-result
overflow_sub-result c =
    let light = rw (← (c.in_default.ensures.none refl)) at c.runs.invariant in
    ran-within _ _ _ _ (ran-front _ _ _ _ _ light _ c.push_others-count.ensures)

pub returns : goal.returns
returns c =
    let light = rw (← (c.in_default.ensures.none refl)) at c.runs.invariant in
    rw (c.in_default-push_wide.ensures.none refl)
    (ran-adds _ _ _ _ (ran-front _ _ _ _ _ light _ c.push_others-count.ensures))
