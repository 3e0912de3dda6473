use Rattle.std.proofs.Common.{◌≡◌, sym, ◌∙◌, Some, refl, subst, true}
use Rattle.wc_syntax.specs.Standard.Reading.{Standing}
use Rattle.wc_syntax.specs.Tables.Usual.{is_free, is_held}
use Rattle.wc_syntax.specs.declared.kind.Kind.TheVariants as kind
use Rattle.wc_syntax.specs.declared.role.Role.TheVariants as role
use Rattle.wc_syntax.specs.declared.place.Place.TheVariants as place
use Rattle.wc_syntax.specs.declared.place.Move.TheVariants.{Out}
use Rattle.wc_syntax.proofs.Tabled.Usual.{usual-by, held-end-at}
use Rattle.wc_syntax.proofs.reading.Reading.take_held_end.Goals as goal

pub returns-then-is_held-clause-read : goal.returns-then-is_held-clause-read
returns-then-is_held-clause-read c h limit at ks es r e =
    usual-by limit at ks es _ _ _ kind.Close (Some role.HeldEnd) (Out place.Done) refl
    (held-end-at _ (subst (λ (x : Standing). is_free x.place ≡ true) c.self.view_is (sym c.is_free.ensures
    ∙ c.if-is_free.true))
    (subst (λ (x : Standing). is_held x.frame ≡ true) c.self.view_is (sym c.is_held.ensures ∙ c.if-is_held.true)))
    c.leave.ensures r e
