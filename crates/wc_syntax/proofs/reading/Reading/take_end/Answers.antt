use Rattle.std.proofs.Common.{◌≡◌, sym, ◌∙◌, Some, refl, subst, true}
use Rattle.wc_syntax.specs.Standard.Reading.{Standing}
use Rattle.wc_syntax.specs.Tables.Usual.{takes_name, ends_by_word}
use Rattle.wc_syntax.specs.declared.kind.Kind.TheVariants as kind
use Rattle.wc_syntax.specs.declared.role.Role.TheVariants as role
use Rattle.wc_syntax.specs.declared.place.Place.TheVariants as place
use Rattle.wc_syntax.specs.declared.place.Move.TheVariants.{Out}
use Rattle.wc_syntax.proofs.Tabled.Usual.{usual-by, end-at}
use Rattle.wc_syntax.proofs.reading.Reading.take_end.Goals as goal

pub returns-then-ends_by_word-clause-read : goal.returns-then-ends_by_word-clause-read
returns-then-ends_by_word-clause-read c h limit at ks es r e =
    usual-by limit at ks es _ _ _ kind.EndWord (Some role.End) (Out place.EndLabel) refl
    (end-at _
    (subst (λ (x : Standing). takes_name x.place ≡ true) c.self.view_is
    (sym c.takes_name.ensures ∙ c.if-takes_name.true))
    (subst (λ (x : Standing). ends_by_word x.frame ≡ true) c.self.view_is
    (sym c.ends_by_word.ensures ∙ c.if-ends_by_word.true)))
    c.leave.ensures r e
