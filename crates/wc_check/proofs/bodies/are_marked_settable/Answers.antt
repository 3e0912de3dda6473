use Rattle.wc_check.proofs.Walks.BitLemmas.{marked-step, marked-constant}
use Rattle.wc_check.proofs.bodies.are_marked_settable.Goals as goal
use Rattle.wc_check.proofs.bodies.are_marked_settable.Goals.{else-left-eq1-via-then-left-eq1+else-not-global}
use Rattle.wc_check.proofs.bodies.are_marked_settable.Goals.{else-left-eq1-via-else-left-eq1}

pub returns-then-not-global : goal.returns-then-not-global
returns-then-not-global c = (
  λ yes. absurd cc,
  λ all. absurd (marked-constant c.args.globals.now c.loop-global.global-index _ c.loop-global.left
      c.loop-global-test.true c.if-left-eq1.true c.if-not-global.true (c.loop-global.invariant.1 all)),
)

pub loop-global-preserved : goal.loop-global-preserved
loop-global-preserved c =
    let globals = c.args.globals.now in let index = c.loop-global.global-index in
    let step = marked-step globals index _ c.loop-global.left c.loop-global-test.true
    (elim c.else-left-eq1.branch [
      | else-left-eq1-via-then-left-eq1+else-not-global w ↦ λ odd. w.if-not-global.false
      | else-left-eq1-via-else-left-eq1 w ↦ λ odd. absurd (w.if-left-eq1.false odd)
    ]) in
    (λ rest. c.loop-global.invariant.0 (step.0 rest), λ all. step.1 (c.loop-global.invariant.1 all))
