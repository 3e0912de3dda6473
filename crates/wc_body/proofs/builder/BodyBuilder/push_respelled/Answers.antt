use Rattle.std.proofs.Common.{◌∙◌, ◌++◌, ◌∷◌, List, ℕ, length, take, ap, sym, inr, refl, rules, SFits, w64}
use Rattle.std.proofs.lemmas.Int.{to_z-of_z}
use Rattle.std.proofs.lemmas.List.{take-append-drop, take_rest}
use Rattle.wc_body.specs.declared.entry.Entry.TheVariants.{Plain}
use Rattle.wc_body.proofs.Drafts.BuilderLemmas.{started-push}
use Rattle.wc_body.proofs.Drafts.Runs.WideLemmas.{wide-entry, NotesWide}
use Rattle.wc_body.proofs.builder.BodyBuilder.push_respelled.Goals as goal

pub invariant_of-self : goal.invariant_of-self
invariant_of-self c =
    let rest = c.in_ok-opcode.rest.now in
    let found = c.in_ok-integer.integer in
    let entry =
    wide-entry rest found.value found.count found.length found.bytes c.in_ok-opcode.opcode.now c.wide_of-row.result.now
    c.wide_of-row.ensures c.in_ok-integer.ensures in
    let own = c.self.inside in
    let is = c.put_cut.ensures ∙ ap (λ (z : List ℕ). own.bytes.items ++ z) entry.1 in
    let fits : SFits w64 found.value = search rules in
    let same = to_z-of_z w64 found.value fits in
    let noted : NotesWide own.needs c.note_wide.new.needs c.wide_of-row.result.now found.value =
    (λ n is lt. c.note_wide.ensures.index n (same ∙ is) lt, λ none. c.note_wide.ensures.none none) in
    let needs = entry.4 (length own.parts.items) own.needs c.note_wide.new.needs noted in
    rw needs
    (started-push own.bytes.items own.parts.items own.after_else own.needs c.self.invariant (Plain entry.0) entry.2
    c.put_cut.new.bytes.items own.parts.items _ is refl (λ e. absurd cc) c.self.invariant.building.stacked
    refl).started

pub returns-clause-some : goal.returns-clause-some
returns-clause-some c =
    let rest = c.in_ok-opcode.rest.now in
    let found = c.in_ok-integer.integer in
    let entry =
    wide-entry rest found.value found.count found.length found.bytes c.in_ok-opcode.opcode.now c.wide_of-row.result.now
    c.wide_of-row.ensures c.in_ok-integer.ensures in
    let own = c.self.inside in
    let is = c.put_cut.ensures ∙ ap (λ (z : List ℕ). own.bytes.items ++ z) entry.1 in
    let fits : SFits w64 found.value = search rules in
    let same = to_z-of_z w64 found.value fits in
    let noted : NotesWide own.needs c.note_wide.new.needs c.wide_of-row.result.now found.value =
    (λ n is lt. c.note_wide.ensures.index n (same ∙ is) lt, λ none. c.note_wide.ensures.none none) in
    let needs = entry.4 (length own.parts.items) own.needs c.note_wide.new.needs noted in
    let pushed =
    started-push own.bytes.items own.parts.items own.after_else own.needs c.self.invariant (Plain entry.0) entry.2
    c.put_cut.new.bytes.items own.parts.items _ is refl (λ e. absurd cc) c.self.invariant.building.stacked refl in
    let x = c.in_ok-opcode.opcode.now ∷ take found.count rest in
    let split =
    c.in_ok-opcode.ensures.cases.0
    ∙ ap (λ (z : List ℕ). c.in_ok-opcode.opcode.now ∷ z) (sym (take-append-drop found.count rest)) in
    rw (take_rest rest found.count)
    (entry.0, x, split, inr (entry.0, refl, entry.3), rw (← c.self.view_is) pushed.drafted)
