use Rattle.std.proofs.Common.{◌≡◌, sym, ◌∙◌, Some, refl, subst, true}
use Rattle.wc_syntax.specs.Standard.Reading.{Standing}
use Rattle.wc_syntax.specs.Tables.Table.{takes_instrs}
use Rattle.wc_syntax.specs.Tables.Usual.{takes_name}
use Rattle.wc_syntax.specs.declared.role.Role.TheVariants as role
use Rattle.wc_syntax.specs.declared.place.Place.TheVariants as place
use Rattle.wc_syntax.specs.declared.place.Move.TheVariants.{Into}
use Rattle.wc_syntax.proofs.Tabled.Usual.{usual-by, begin-at}
use Rattle.wc_syntax.proofs.reading.Reading.take_begin.Goals as goal

pub returns-then-not-is_deep-clause-read : goal.returns-then-not-is_deep-clause-read
returns-then-not-is_deep-clause-read c h limit at ks es r e =
    usual-by limit at ks es _ _ _ c.args.kind (Some role.Begin) (Into place.Label c.in-Some.frame) refl
    (begin-at _ c.args.kind c.in-Some.frame (sym c.begun_frame.ensures ∙ c.in-Some.is)
    (subst (λ (x : Standing). takes_name x.place ≡ true) c.self.view_is
    (sym c.takes_name.ensures ∙ c.if-takes_name.true))
    (subst (λ (x : Standing). takes_instrs x.frame ≡ true) c.self.view_is
    (sym c.takes_instrs.ensures ∙ c.if-takes_instrs.true))
    (sym c.is_deep.ensures ∙ c.if-not-is_deep.true))
    c.in_ok-go.ensures.ok r e
