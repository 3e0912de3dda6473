use Rattle.wc_ast.proofs.Rows.NameLemmas.{name-pushed}
use Rattle.wc_ast.proofs.names.Names.push.Goals as goal

pub invariant_of-self-2 : goal.invariant_of-self-2
invariant_of-self-2 c =
    let it = name-pushed c.self.inside.sizes c.self.inside.bytes.items c.args.name.now c.self.invariant c.utf8.name in
    rw (c.append.ensures.items, c.in_ok-push.ensures.ok, c.in_ok-reserve.ensures.items) it.kept

pub returns-clause-ok : goal.returns-clause-ok
returns-clause-ok c =
    let it = name-pushed c.self.inside.sizes c.self.inside.bytes.items c.args.name.now c.self.invariant c.utf8.name in
    rw (← c.self.view_is, c.append.ensures.items, c.in_ok-push.ensures.ok, c.in_ok-reserve.ensures.items) it.seen
