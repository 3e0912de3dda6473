use Rattle.std.proofs.Common.{sym, ◌∙◌}
use Rattle.wc_ast.proofs.Rows.ExternalLemmas.{imports-count, descs-back}
use Rattle.wc_ast.proofs.imports.Imports.descs.Goals as goal

pub returns-clause-descs : goal.returns-clause-descs
returns-clause-descs c =
    rw (← c.self.view_is)
    (c.as_slice.ensures.value ∙ sym (descs-back c.self.inside.names c.self.inside.descs.items c.self.invariant))

pub returns-clause-count : goal.returns-clause-count
returns-clause-count c =
    rw (← c.self.view_is, c.as_slice.ensures.value)
    (sym (imports-count c.self.inside.names c.self.inside.descs.items c.self.invariant))
