use Rattle.std.proofs.Common.{sym, ◌∙◌, Some, refl}
use Rattle.wc_syntax.specs.declared.kind.Kind.TheVariants as kind
use Rattle.wc_syntax.specs.declared.place.Move.TheVariants.{On}
use Rattle.wc_syntax.specs.Tables.Parts.{behind_type}
use Rattle.wc_syntax.proofs.Tabled.Usual.{usual-by}
use Rattle.wc_syntax.proofs.Tabled.Parts.{type-at}
use Rattle.wc_syntax.proofs.reading.Reading.take_type.Goals as goal

pub returns-clause-read : goal.returns-clause-read
returns-clause-read c limit at ks es r e =
    usual-by limit at ks es _ _ _ kind.ValType (Some c.in-Some.role) (On (behind_type _)) c.self.view_is
    (type-at _ c.in-Some.role (sym c.type_role.ensures ∙ c.in-Some.is))
    (rw c.behind_type-self-inside.ensures refl) r e
