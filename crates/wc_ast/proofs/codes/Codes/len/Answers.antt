use Rattle.std.proofs.Common.{sym, ◌∙◌}
use Rattle.wc_ast.proofs.Rows.CodeRowLemmas.{codes-count}
use Rattle.wc_ast.proofs.codes.Codes.len.Goals as goal

pub returns : goal.returns
returns c =
    rw (← c.self.view_is)
    (c.len.ensures ∙ c.self.inside.spans.ok.0
    ∙ sym (codes-count c.self.inside.spans.items c.self.inside.groups.items c.self.inside.bodies c.self.invariant))
