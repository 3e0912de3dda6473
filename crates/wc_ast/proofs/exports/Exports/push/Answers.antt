use Rattle.wc_ast.proofs.Rows.ExternalLemmas.{export-pushed}
use Rattle.wc_ast.proofs.exports.Exports.push.Goals as goal

pub returns-clause-ok : goal.returns-clause-ok
returns-clause-ok c =
    rw (
      ← c.self.view_is,
      c.push_reserved.ensures.items,
      c.in_ok-reserve.ensures.items,
      c.in_ok-push.ensures.ok,
    )
    (export-pushed c.self.inside.names c.self.inside.exported.items c.args.name.now
    (record { kind = c.args.kind; index = c.args.index }) c.self.invariant)
