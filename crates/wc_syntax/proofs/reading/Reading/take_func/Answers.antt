use Rattle.std.proofs.Common.{◌≡◌, sym, ◌∙◌, Some, refl, subst, true}
use Rattle.wc_syntax.specs.Standard.Reading.{Standing}
use Rattle.wc_syntax.specs.Tables.Parts.{opens_field}
use Rattle.wc_syntax.specs.declared.kind.Kind.TheVariants as kind
use Rattle.wc_syntax.specs.declared.role.Role.TheVariants as role
use Rattle.wc_syntax.specs.declared.place.Place.TheVariants as place
use Rattle.wc_syntax.specs.declared.place.Frame.TheVariants as frame
use Rattle.wc_syntax.specs.declared.place.Move.TheVariants.{Into}
use Rattle.wc_syntax.proofs.Tabled.Usual.{usual-by}
use Rattle.wc_syntax.proofs.Tabled.Parts.{func-at}
use Rattle.wc_syntax.proofs.reading.Reading.take_func.Goals as goal

pub returns-then-opens_field-clause-read : goal.returns-then-opens_field-clause-read
returns-then-opens_field-clause-read c h limit at ks es r e =
    usual-by limit at ks es _ _ _ kind.FuncWord (Some role.Field) (Into place.ExportedId frame.FuncStart) refl
    (func-at _
    (subst (λ (x : Standing). opens_field x.place x.frame ≡ true) c.self.view_is
    (sym c.opens_field.ensures ∙ c.if-opens_field.true)))
    c.in_ok-go.ensures.ok r e
