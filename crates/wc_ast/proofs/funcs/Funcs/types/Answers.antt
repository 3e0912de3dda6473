use Rattle.std.proofs.Common.{sym, ◌∙◌}
use Rattle.wc_ast.proofs.Rows.FuncLemmas.{types-back}
use Rattle.wc_ast.proofs.funcs.Funcs.types.Goals as goal

pub returns : goal.returns
returns c =
    rw (← c.self.view_is)
    (c.as_slice.ensures.value ∙ sym (types-back c.self.inside.types.items c.self.inside.codes c.self.invariant))
