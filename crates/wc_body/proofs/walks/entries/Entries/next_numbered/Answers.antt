use Rattle.std.proofs.Common.{sym, ap, ◌∙◌}
use Rattle.wc_body.specs.declared.entry.Entry.TheVariants.{Plain}
use Rattle.wc_body.specs.Standard.Entries.{marks}
use Rattle.wc_body.proofs.Packing.PackedLemmas.{front-first}
use Rattle.wc_body.proofs.walks.entries.Entries.next_numbered.Goals as goal

pub invariant_of-self : goal.invariant_of-self
invariant_of-self c =
    let begun = c.in_ok-first.ensures in
    (front-first c.self.inside.bytes.now c.self.invariant (Plain begun.instr) c.in_ok-first.following.now begun.front).1

pub returns-clause-some : goal.returns-clause-some
returns-clause-some c =
    let begun = c.in_ok-first.ensures in
    let next = front-first c.self.inside.bytes.now c.self.invariant (Plain begun.instr) c.in_ok-first.following.now
    begun.front in
    record { instr = begun.instr; said = begun.said; first = sym c.self.view_is ∙ ap marks next.0 }
