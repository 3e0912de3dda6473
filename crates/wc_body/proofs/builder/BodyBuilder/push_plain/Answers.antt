use Rattle.std.proofs.Common.{refl}
use Rattle.wc_body.specs.declared.entry.Entry.TheVariants.{Plain}
use Rattle.wc_body.proofs.Drafts.BuilderLemmas.{started-push}
use Rattle.wc_body.proofs.builder.BodyBuilder.push_plain.Goals as goal

pub invariant_of-self-2 : goal.invariant_of-self-2
invariant_of-self-2 c =
    rw (c.note_instr.ensures, c.len.ensures, c.self.inside.parts.ok.0)
    (started-push c.self.inside.bytes.items c.self.inside.parts.items c.self.inside.after_else c.self.inside.needs
    c.self.invariant
    (Plain c.args.instr) c.in_ok-put_instr.ensures.fits c.put_instr.new.bytes.items c.self.inside.parts.items _
    c.in_ok-put_instr.ensures.ok refl (λ e. absurd cc) c.self.invariant.building.stacked refl).started

pub returns-clause-ok : goal.returns-clause-ok
returns-clause-ok c =
    rw (← c.self.view_is)
    (started-push c.self.inside.bytes.items c.self.inside.parts.items c.self.inside.after_else c.self.inside.needs
    c.self.invariant
    (Plain c.args.instr) c.in_ok-put_instr.ensures.fits c.put_instr.new.bytes.items c.self.inside.parts.items _
    c.in_ok-put_instr.ensures.ok refl (λ e. absurd cc) c.self.invariant.building.stacked refl).drafted
