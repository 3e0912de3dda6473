use Rattle.std.proofs.Common.{refl, length}
use Rattle.wc_body.specs.declared.entry.Entry.TheVariants.{Plain}
use Rattle.wc_body.proofs.runs.spelled.spelled_front.Goals as goal

pub returns-in-Some : goal.returns-in-Some
returns-in-Some c =
    let h = c.in-Some.ensures.some (length c.args.parts.now.items) in
    (Plain h.0, h.1, h.2, h.3, refl)
