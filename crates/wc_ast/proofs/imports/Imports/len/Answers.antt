use Rattle.std.proofs.Common.{sym, ◌∙◌}
use Rattle.wc_ast.proofs.Rows.ExternalLemmas.{imports-count}
use Rattle.wc_ast.proofs.imports.Imports.len.Goals as goal

pub returns : goal.returns
returns c =
    rw (← c.self.view_is)
    (c.len.ensures ∙ c.self.inside.descs.ok.0
    ∙ sym (imports-count c.self.inside.names c.self.inside.descs.items c.self.invariant))
