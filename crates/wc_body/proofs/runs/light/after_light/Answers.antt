use Rattle.std.proofs.Common.{◌<◌, suc, length, refl}
use Rattle.wc_body.specs.declared.entry.Entry.TheVariants.{Plain}
use Rattle.wc_body.proofs.Drafts.Runs.FrontRun.{fronted-shorter}
use Rattle.wc_body.proofs.runs.light.after_light.Goals as goal

pub entries-init : goal.entries-init
entries-init c = (0, (refl, rw c.of-noted.ensures refl))

pub entries-smaller : goal.entries-smaller
entries-smaller c =
    let h = c.in-Some.ensures.some in
    let shorter : length c.in-Some.behind.now < length c.entries.rest.now = fronted-shorter _ _ (Plain h.0) h.1 in
    shorter

pub entries-preserved : goal.entries-preserved
entries-preserved c =
    let i = c.entries.invariant in
    (suc i.0, (_, _, i.1, c.in-Some.ensures.some))

pub returns : goal.returns
returns c =
    let same = c.in_default.ensures.none refl in
    rw (c.give_back.ensures, same.0, same.1) c.entries.invariant
