use Rattle.std.proofs.Common.{sym, ap, ◌∙◌}
use Rattle.wc_body.specs.Standard.Needed.{nothing, with_bodies}
use Rattle.wc_ast.proofs.Rows.FuncLemmas.{bodies-same}
use Rattle.wc_ast.proofs.funcs.Funcs.needs.Goals as goal

pub returns : goal.returns
returns c =
    rw (← c.self.view_is)
    (c.needs.ensures
    ∙ ap (λ bs. with_bodies nothing bs) (sym (bodies-same c.self.inside.types.items c.self.inside.codes
    c.self.invariant)))
