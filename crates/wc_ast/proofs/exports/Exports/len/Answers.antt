use Rattle.std.proofs.Common.{sym, ◌∙◌}
use Rattle.wc_ast.proofs.Rows.ExternalLemmas.{exports-count}
use Rattle.wc_ast.proofs.exports.Exports.len.Goals as goal

pub returns : goal.returns
returns c =
    rw (← c.self.view_is)
    (c.len.ensures ∙ c.self.inside.exported.ok.0
    ∙ sym (exports-count c.self.inside.names c.self.inside.exported.items c.self.invariant))
