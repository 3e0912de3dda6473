use Rattle.std.proofs.Common.{sym, ◌∙◌}
use Rattle.wc_ast.proofs.Rows.FuncLemmas.{funcs-count}
use Rattle.wc_ast.proofs.funcs.Funcs.len.Goals as goal

pub returns : goal.returns
returns c =
    rw (← c.self.view_is)
    (c.len.ensures ∙ c.self.inside.types.ok.0
    ∙ sym (funcs-count c.self.inside.types.items c.self.inside.codes c.self.invariant))
