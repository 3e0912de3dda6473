use Rattle.std.proofs.Common.{sym, ◌∙◌, Some, refl}
use Rattle.wc_syntax.specs.declared.role.Role.TheVariants as role
use Rattle.wc_syntax.specs.declared.place.Move.TheVariants.{On}
use Rattle.wc_syntax.proofs.Tabled.Usual.{usual-by, index-at}
use Rattle.wc_syntax.proofs.reading.Reading.take_index.Goals as goal

pub returns-clause-read : goal.returns-clause-read
returns-clause-read c h limit at ks es r e =
    usual-by limit at ks es _ _ _ c.args.kind (Some role.Index) (On c.in-Some.place) c.self.view_is
    (index-at _ c.args.kind c.in-Some.place (sym c.behind_index.ensures ∙ c.in-Some.is)) refl r e
