use Rattle.wc_ast.proofs.Rows.NameLemmas.{names-pushed}
use Rattle.wc_ast.proofs.names.Names.push_two.Goals as goal

pub invariant_of-self-2 : goal.invariant_of-self-2
invariant_of-self-2 c =
    let it = names-pushed c.self.inside.sizes c.self.inside.bytes.items c.args.first.now c.args.second.now
    c.self.invariant c.utf8.first c.utf8.second in
    rw (
      c.append-2.ensures.items,
      c.append.ensures.items,
      c.in_ok-push_two.ensures.ok,
      c.in_ok-reserve.ensures.items,
    )
    it.kept

pub returns-clause-ok : goal.returns-clause-ok
returns-clause-ok c =
    let it = names-pushed c.self.inside.sizes c.self.inside.bytes.items c.args.first.now c.args.second.now
    c.self.invariant c.utf8.first c.utf8.second in
    rw (
      ← c.self.view_is,
      c.append-2.ensures.items,
      c.append.ensures.items,
      c.in_ok-push_two.ensures.ok,
      c.in_ok-reserve.ensures.items,
    )
    it.seen
