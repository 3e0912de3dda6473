use Rattle.std.proofs.Common.{◌≡◌, length, refl, arith}
use Rattle.std.proofs.lemmas.Bool.Decides.{nat_tests}
use Rattle.wc_body.proofs.Drafts.BuilderLemmas.{started-none}
use Rattle.wc_body.proofs.Drafts.Runs.FrontRun.{fronted-none, fronted-more}
use Rattle.wc_body.proofs.Drafts.Finished.{fronted-body}
use Rattle.wc_body.proofs.runs.spelled.instructions_spelled.Goals as goal

pub loop-rest-init : goal.loop-rest-init
loop-rest-init c = rw c.requires (fronted-none _ _ _ _ _ started-none refl)

pub loop-rest-preserved : goal.loop-rest-preserved
loop-rest-preserved c =
    fronted-more _ _ _ _ _ _ _ _ _ c.loop-rest.invariant (rw c.new-parts.ensures.items at c.in-Some.ensures)

pub returns : goal.returns
returns c told =
    let none : length c.loop-rest.rest.now ≡ 0 = grind (arith, nat_tests) in
    fronted-body _ _ _ _ c.loop-rest.invariant none refl
