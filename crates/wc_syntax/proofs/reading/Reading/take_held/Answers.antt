use Rattle.std.proofs.Common.{◌≡◌, sym, ◌∙◌, Some, refl, subst, true}
use Rattle.wc_syntax.specs.Standard.Reading.{Standing}
use Rattle.wc_syntax.specs.Tables.Table.{takes_folded}
use Rattle.wc_syntax.specs.Tables.Usual.{is_opened}
use Rattle.wc_syntax.specs.declared.role.Role.TheVariants as role
use Rattle.wc_syntax.specs.declared.place.Frame.TheVariants as frame
use Rattle.wc_syntax.specs.declared.place.Move.TheVariants.{Into}
use Rattle.wc_syntax.proofs.Tabled.Usual.{usual-by, held-at}
use Rattle.wc_syntax.proofs.reading.Reading.take_held.Goals as goal

pub returns-then-not-is_deep-clause-read : goal.returns-then-not-is_deep-clause-read
returns-then-not-is_deep-clause-read c h limit at ks es r e =
    usual-by limit at ks es _ _ _ c.args.kind (Some role.HeldPlain) (Into c.in-Some.place frame.Held) refl
    (held-at _ c.args.kind c.in-Some.place (sym c.behind_name.ensures ∙ c.in-Some.is)
    (subst (λ (x : Standing). is_opened x.place ≡ true) c.self.view_is (sym c.is_opened.ensures ∙ c.if-is_opened.true))
    (subst (λ (x : Standing). takes_folded x.frame ≡ true) c.self.view_is (sym c.takes_folded.ensures
    ∙ c.if-takes_folded.true))
    (sym c.is_deep.ensures ∙ c.if-not-is_deep.true))
    c.in_ok-go.ensures.ok r e
