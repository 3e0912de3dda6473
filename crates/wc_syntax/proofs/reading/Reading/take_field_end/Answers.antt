use Rattle.std.proofs.Common.{◌≡◌, sym, ◌∙◌, Some, refl, subst, true}
use Rattle.wc_syntax.specs.Standard.Reading.{Standing}
use Rattle.wc_syntax.specs.Tables.Table.{is_in_frame, rest_of}
use Rattle.wc_syntax.specs.Tables.Parts.{ends_field}
use Rattle.wc_syntax.specs.declared.kind.Kind.TheVariants as kind
use Rattle.wc_syntax.specs.declared.role.Role.TheVariants as role
use Rattle.wc_syntax.specs.declared.place.Place.TheVariants as place
use Rattle.wc_syntax.specs.declared.place.Move.TheVariants.{Out}
use Rattle.wc_syntax.proofs.Tabled.Usual.{usual-by}
use Rattle.wc_syntax.proofs.Tabled.Parts.{field-end-at}
use Rattle.wc_syntax.proofs.reading.Reading.take_field_end.Goals as goal

pub returns-then-ends_field-clause-read : goal.returns-then-ends_field-clause-read
returns-then-ends_field-clause-read c h limit at ks es r e =
    usual-by limit at ks es _ _ _ kind.Close (Some role.FieldEnd) (Out place.Done) refl
    (field-end-at _
    (subst (λ (x : Standing). is_in_frame (rest_of x.place) ≡ true) c.self.view_is
    (sym c.may_end.ensures ∙ c.if-may_end.true))
    (subst (λ (x : Standing). ends_field x.frame ≡ true) c.self.view_is
    (sym c.ends_field.ensures ∙ c.if-ends_field.true)))
    c.leave.ensures r e
