use Rattle.wc_ast.proofs.Rows.CodeRowLemmas.{bare-pushed}
use Rattle.wc_ast.proofs.codes.Codes.push_spelled.Goals as goal

pub invariant_of-self-then-added : goal.invariant_of-self-then-added
invariant_of-self-then-added c =
    let adds = rw c.if-added.true at c.in_ok-added.ensures.ok in
    let it = bare-pushed c.self.inside.spans.items c.self.inside.groups.items c.self.inside.bodies adds.0
    c.self.invariant in
    rw (c.push_reserved.ensures.items, c.in_ok-reserve.ensures.items, adds.3) it.0

pub returns-then-added-clause-ok : goal.returns-then-added-clause-ok
returns-then-added-clause-ok c =
    let adds = rw c.if-added.true at c.in_ok-added.ensures.ok in
    let it = bare-pushed c.self.inside.spans.items c.self.inside.groups.items c.self.inside.bodies adds.0
    c.self.invariant in
    rw c.if-added.true (
      adds.0,
      adds.1,
      adds.2,
      rw (← c.self.view_is, c.push_reserved.ensures.items, c.in_ok-reserve.ensures.items, adds.3) it.1,
    )
