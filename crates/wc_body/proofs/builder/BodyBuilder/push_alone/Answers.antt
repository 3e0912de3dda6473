use Rattle.std.proofs.Common.{◌∙◌, ◌++◌, List, ℕ, ap, inl, refl}
use Rattle.wc_body.specs.declared.instr.Instr.TheVariants.{Simple}
use Rattle.wc_body.specs.declared.entry.Entry.TheVariants.{Plain}
use Rattle.wc_body.proofs.Drafts.BuilderLemmas.{started-push}
use Rattle.wc_body.proofs.builder.BodyBuilder.push_alone.Goals as goal

pub invariant_of-self : goal.invariant_of-self
invariant_of-self c =
    let alone = c.is_alone.ensures c.if-not-is_alone.false in
    let is = c.push_reserved.ensures.items ∙ ap (λ (z : List ℕ). c.self.inside.bytes.items ++ z) alone.1 in
    rw (alone.2 _ _) at
    ((started-push c.self.inside.bytes.items c.self.inside.parts.items c.self.inside.after_else c.self.inside.needs
    c.self.invariant (Plain (Simple alone.0)) tt c.push_reserved.new.self.items c.self.inside.parts.items _ is refl
    (λ e. absurd cc) c.self.invariant.building.stacked refl).started)

pub returns-clause-added : goal.returns-clause-added
returns-clause-added c t =
    let alone = c.is_alone.ensures c.if-not-is_alone.false in
    let is = c.push_reserved.ensures.items ∙ ap (λ (z : List ℕ). c.self.inside.bytes.items ++ z) alone.1 in
    let pushed = started-push c.self.inside.bytes.items c.self.inside.parts.items c.self.inside.after_else
    c.self.inside.needs c.self.invariant (Plain (Simple alone.0)) tt c.push_reserved.new.self.items
    c.self.inside.parts.items _ is refl (λ e. absurd cc) c.self.invariant.building.stacked refl in
    (Simple alone.0, inl (alone.1, tt), rw (← c.self.view_is) pushed.drafted)
