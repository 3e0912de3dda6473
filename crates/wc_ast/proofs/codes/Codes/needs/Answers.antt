use Rattle.std.proofs.Common.{sym, ap, ◌∙◌}
use Rattle.wc_body.specs.Standard.Needed.{nothing, with_bodies}
use Rattle.wc_ast.proofs.Rows.CodeRowLemmas.{bodies-back}
use Rattle.wc_ast.proofs.codes.Codes.needs.Goals as goal

pub returns : goal.returns
returns c =
    rw (← c.self.view_is)
    (c.needs.ensures
    ∙ ap (λ bs. with_bodies nothing bs)
    (sym (bodies-back c.self.inside.spans.items c.self.inside.groups.items c.self.inside.bodies c.self.invariant)))
