use Rattle.std.proofs.Common.{sym, ap, ◌∙◌}
use Rattle.wc_body.specs.Standard.Entries.{marks}
use Rattle.wc_body.proofs.Packing.PackedLemmas.{front-first}
use Rattle.wc_body.proofs.walks.entries.Entries.next_brief.Goals as goal

pub invariant_of-self : goal.invariant_of-self
invariant_of-self c =
    let begun = c.in_ok-brief.ensures in
    (front-first c.self.inside.bytes.now c.self.invariant begun.entry c.in_ok-brief.left.now begun.front).1

pub returns-clause-some : goal.returns-clause-some
returns-clause-some c =
    let begun = c.in_ok-brief.ensures in
    let next = front-first c.self.inside.bytes.now c.self.invariant begun.entry c.in_ok-brief.left.now begun.front in
    record {
      entry = begun.entry;
      said = begun.said;
      first = sym c.self.view_is ∙ ap marks next.0;
      low = begun.low;
      bare = begun.bare;
    }
