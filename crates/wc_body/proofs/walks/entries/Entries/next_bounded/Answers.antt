use Rattle.std.proofs.Common.{sym, ap, ◌∙◌}
use Rattle.wc_body.specs.Standard.Entries.{marks}
use Rattle.wc_body.proofs.Packing.PackedLemmas.{front-first}
use Rattle.wc_body.proofs.walks.entries.Entries.next_bounded.Goals as goal

pub invariant_of-self : goal.invariant_of-self
invariant_of-self c =
    (front-first c.self.inside.bytes.now c.self.invariant _ c.in_ok-first.after.now c.in_ok-first.ensures).1

pub returns-clause-some : goal.returns-clause-some
returns-clause-some c =
    let next = front-first c.self.inside.bytes.now c.self.invariant _ c.in_ok-first.after.now c.in_ok-first.ensures in
    sym c.self.view_is ∙ ap marks next.0
