use Rattle.std.proofs.Common.{sym, ap, ◌∙◌}
use Rattle.wc_body.specs.Standard.Entries.{marks}
use Rattle.wc_body.proofs.Packing.PackedLemmas.{front-first, front-none}
use Rattle.wc_body.proofs.walks.entries.Entries.take_first.Goals as goal

pub returns-in_err-entry-clause-none : goal.returns-in_err-entry-clause-none
returns-in_err-entry-clause-none c =
    let none = sym c.self.view_is
    ∙ ap marks (front-none c.self.inside.bytes.now c.self.invariant (sym (rw c.in_err-entry.was at c.entry_at.ensures)))
    in
    λ h. (none, none)

pub invariant_of-self : goal.invariant_of-self
invariant_of-self c =
    (front-first c.self.inside.bytes.now c.self.invariant c.in_ok-entry.entry c.in_ok-entry.rest.now
    (sym (rw c.in_ok-entry.was at c.entry_at.ensures))).1

pub returns-clause-some : goal.returns-clause-some
returns-clause-some c =
    let next = front-first c.self.inside.bytes.now c.self.invariant c.in_ok-entry.entry c.in_ok-entry.rest.now
    (sym (rw c.in_ok-entry.was at c.entry_at.ensures)) in
    sym c.self.view_is ∙ ap marks next.0
