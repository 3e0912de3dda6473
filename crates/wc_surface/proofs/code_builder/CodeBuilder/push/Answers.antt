use Rattle.std.proofs.Common.{refl}
use Rattle.wc_surface.specs.declared.code.TextEntry.TheVariants.{Plain}
use Rattle.wc_surface.proofs.DraftLemmas.{started-push}
use Rattle.wc_surface.proofs.code_builder.CodeBuilder.push.Goals as goal

pub invariant_of-self-2 : goal.invariant_of-self-2
invariant_of-self-2 c =
    (started-push c.self.inside.row.items c.self.inside.parts.items c.self.inside.after_else c.self.invariant
    (Plain c.args.instr) c.put.new.row.items c.self.inside.parts.items _
    c.in_ok-put.ensures.ok refl (λ e. absurd cc) c.self.invariant.building.stacked refl).started

pub returns-clause-ok : goal.returns-clause-ok
returns-clause-ok c =
    rw (← c.self.view_is)
    (started-push c.self.inside.row.items c.self.inside.parts.items c.self.inside.after_else c.self.invariant
    (Plain c.args.instr) c.put.new.row.items c.self.inside.parts.items _
    c.in_ok-put.ensures.ok refl (λ e. absurd cc) c.self.invariant.building.stacked refl).drafted
