use Rattle.std.proofs.Common.{sym, ◌∙◌, Some, refl}
use Rattle.wc_syntax.specs.declared.role.Role.TheVariants as role
use Rattle.wc_syntax.specs.declared.place.Place.TheVariants as place
use Rattle.wc_syntax.specs.declared.place.Move.TheVariants.{On}
use Rattle.wc_syntax.proofs.Tabled.Usual.{usual-by, literal-at}
use Rattle.wc_syntax.proofs.reading.Reading.take_literal.Goals as goal

pub returns-then-is_literal-clause-read : goal.returns-then-is_literal-clause-read
returns-then-is_literal-clause-read c h limit at ks es r e =
    usual-by limit at ks es _ _ _ c.args.kind (Some role.Literal) (On place.Done) c.self.view_is
    (literal-at _ c.args.kind (sym c.is_literal.ensures ∙ c.if-is_literal.true)) refl r e
