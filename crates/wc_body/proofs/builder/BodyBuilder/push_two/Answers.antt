use Rattle.std.proofs.Common.{◌≡◌, ◌∙◌, ◌++◌, ◌∷◌, [], List, ℕ, length, ap, append_assoc, inl, refl, rules}
use Rattle.wc_body.specs.declared.entry.Entry.TheVariants.{Plain}
use Rattle.wc_body.proofs.Drafts.BuilderLemmas.{started-push}
use Rattle.wc_body.proofs.builder.BodyBuilder.push_two.Goals as goal

pub invariant_of-self-2 : goal.invariant_of-self-2
invariant_of-self-2 c =
    let noted = c.note_two.ensures.noted c.if-not-note_two.false in
    let is = c.push_reserved-2.ensures.items
    ∙ ap (λ (z : List ℕ). z ++ c.args.second ∷ []) c.push_reserved.ensures.items
    ∙ append_assoc c.self.inside.bytes.items (c.args.opcode ∷ []) (c.args.second ∷ [])
    ∙ ap (λ (z : List ℕ). c.self.inside.bytes.items ++ z) noted.1 in
    let open_ : c.len-2.result ≡ length c.self.inside.parts.items = search rules in
    rw (noted.3, open_)
    (started-push c.self.inside.bytes.items c.self.inside.parts.items c.self.inside.after_else c.self.inside.needs
    c.self.invariant (Plain noted.0) noted.2 c.push_reserved-2.new.self.items c.self.inside.parts.items _ is refl
    (λ e. absurd cc) c.self.invariant.building.stacked refl).started

pub returns-clause-added : goal.returns-clause-added
returns-clause-added c t =
    let noted = c.note_two.ensures.noted c.if-not-note_two.false in
    let is = c.push_reserved-2.ensures.items
    ∙ ap (λ (z : List ℕ). z ++ c.args.second ∷ []) c.push_reserved.ensures.items
    ∙ append_assoc c.self.inside.bytes.items (c.args.opcode ∷ []) (c.args.second ∷ [])
    ∙ ap (λ (z : List ℕ). c.self.inside.bytes.items ++ z) noted.1 in
    let pushed = started-push c.self.inside.bytes.items c.self.inside.parts.items c.self.inside.after_else
    c.self.inside.needs c.self.invariant (Plain noted.0) noted.2 c.push_reserved-2.new.self.items
    c.self.inside.parts.items _ is refl (λ e. absurd cc) c.self.invariant.building.stacked refl in
    (noted.0, inl (noted.1, noted.2), rw (← c.self.view_is) pushed.drafted)
