use Rattle.std.proofs.Common.{sym, ◌∙◌, Some, refl}
use Rattle.wc_syntax.specs.declared.role.Role.TheVariants as role
use Rattle.wc_syntax.specs.declared.place.Move.TheVariants.{Past}
use Rattle.wc_syntax.proofs.Tabled.Usual.{usual-by, plain-at}
use Rattle.wc_syntax.proofs.reading.Reading.take_plain.Goals as goal

pub returns-then-takes_instrs-clause-read : goal.returns-then-takes_instrs-clause-read
returns-then-takes_instrs-clause-read c h limit at ks es r e =
    usual-by limit at ks es _ _ _ c.args.kind (Some role.Plain) (Past c.in-Some.place) c.self.view_is
    (plain-at _ c.args.kind c.in-Some.place (sym c.behind_name.ensures ∙ c.in-Some.is)
    (sym c.takes_name.ensures ∙ c.if-takes_name.true) (sym c.takes_instrs.ensures ∙ c.if-takes_instrs.true))
    (rw c.resume-self-inside.ensures refl) r e
