use Rattle.wc_ast.proofs.Rows.ExternalLemmas.{import-pushed}
use Rattle.wc_ast.proofs.imports.Imports.push.Goals as goal

pub returns-clause-ok : goal.returns-clause-ok
returns-clause-ok c =
    rw (
      ← c.self.view_is,
      c.push_reserved.ensures.items,
      c.in_ok-reserve.ensures.items,
      c.in_ok-push_two.ensures.ok,
    )
    (import-pushed c.self.inside.names c.self.inside.descs.items c.args.«module».now c.args.name.now c.args.desc
    c.self.invariant)
