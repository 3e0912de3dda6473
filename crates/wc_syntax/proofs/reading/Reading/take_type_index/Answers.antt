use Rattle.std.proofs.Common.{sym, ◌∙◌, Some, refl}
use Rattle.wc_syntax.specs.declared.role.Role.TheVariants as role
use Rattle.wc_syntax.specs.declared.place.Place.TheVariants as place
use Rattle.wc_syntax.specs.declared.place.Move.TheVariants.{On}
use Rattle.wc_syntax.proofs.Tabled.Usual.{usual-by}
use Rattle.wc_syntax.proofs.Tabled.Parts.{type-index-at}
use Rattle.wc_syntax.proofs.reading.Reading.take_type_index.Goals as goal

pub returns-then-is_type_index-clause-read : goal.returns-then-is_type_index-clause-read
returns-then-is_type_index-clause-read c h limit at ks es r e =
    usual-by limit at ks es _ _ _ c.args.kind (Some role.TypeIndex) (On place.UseEnd) c.self.view_is
    (type-index-at _ c.args.kind (sym c.is_type_index.ensures ∙ c.if-is_type_index.true)) refl r e
