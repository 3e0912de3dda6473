use Rattle.wc_surface.specs.Kept.Lengthening.{Lengthens}
use Rattle.wc_surface.proofs.LocalLemmas.{last-is}
use Rattle.wc_surface.proofs.local.is_next.Goals as goal

pub returns-in-Some : goal.returns-in-Some
returns-in-Some c e = last-is (Lengthens c.args.ty c.args.token) c.args.row.now _ c.in-Some.ensures.value
    (c.continues.ensures e)
