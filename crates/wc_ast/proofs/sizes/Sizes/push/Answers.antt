use Rattle.wc_ast.proofs.Rows.SizeLemmas.{size-pushed}
use Rattle.wc_ast.proofs.sizes.Sizes.push.Goals as goal

pub invariant_of-self-2 : goal.invariant_of-self-2
invariant_of-self-2 c =
    let it = size-pushed c.self.inside.marks.items c.self.inside.large.items c.args.size c.self.invariant in
    rw (c.put.ensures.marks, c.put.ensures.large, c.in_ok-reserve.ensures.items, c.in_ok-reserve_large.ensures.items)
    it.kept

pub returns-clause-ok : goal.returns-clause-ok
returns-clause-ok c =
    let it = size-pushed c.self.inside.marks.items c.self.inside.large.items c.args.size c.self.invariant in
    rw (
      ← c.self.view_is,
      c.put.ensures.marks,
      c.put.ensures.large,
      c.in_ok-reserve.ensures.items,
      c.in_ok-reserve_large.ensures.items,
    )
    it.seen
