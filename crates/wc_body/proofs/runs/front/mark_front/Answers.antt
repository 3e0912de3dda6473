use Rattle.std.proofs.Common.{refl, ap, ◌∷◌, ◌∙◌}
use Rattle.wc_body.specs.declared.entry.Entry.TheVariants.{End}
use Rattle.wc_body.proofs.Drafts.Runs.FrontLemmas.{begin-marks, end-opens}
use Rattle.wc_body.proofs.runs.front.mark_front.Goals as goal

pub returns-then-byte-eq11-clause-some : goal.returns-then-byte-eq11-clause-some
returns-then-byte-eq11-clause-some c =
    let first = c.in_ok-byte.ensures.cases.0 ∙ ap (λ b. b ∷ c.in_ok-byte.rest.now) c.if-byte-eq11.true in
    λ s. (End, first, tt, refl, end-opens _ _ _ c.in_ok-pop.ensures.items)

pub returns-clause-some : goal.returns-clause-some
returns-clause-some c =
    begin-marks _ _ _ _ _ c.in_ok-byte.ensures.cases.0 c.in_ok-kind.kind c.in_ok-kind.ensures
    c.begin_front.result c.begin_front.ensures.some
