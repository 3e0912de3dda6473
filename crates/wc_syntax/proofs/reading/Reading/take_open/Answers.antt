use Rattle.std.proofs.Common.{sym, ◌∙◌, None, refl}
use Rattle.wc_syntax.specs.declared.kind.Kind.TheVariants as kind
use Rattle.wc_syntax.specs.declared.place.Place.TheVariants as place
use Rattle.wc_syntax.specs.declared.place.Move.TheVariants.{On}
use Rattle.wc_syntax.proofs.Tabled.Usual.{usual-by, open-at, part-at}
use Rattle.wc_syntax.proofs.reading.Reading.take_open.Goals as goal

pub returns-then-takes_open-clause-read : goal.returns-then-takes_open-clause-read
returns-then-takes_open-clause-read c h limit at ks es r e =
    usual-by limit at ks es _ _ _ kind.Open None (On place.OpenDone) c.self.view_is
    (open-at _ (sym c.is_free.ensures ∙ c.if-is_free.true) (sym c.takes_open.ensures ∙ c.if-takes_open.true))
    refl r e

pub returns-in-Some-clause-read : goal.returns-in-Some-clause-read
returns-in-Some-clause-read c h limit at ks es r e =
    usual-by limit at ks es _ _ _ kind.Open None (On c.in-Some.place) c.self.view_is
    (part-at _ c.in-Some.place (sym c.opened_part.ensures ∙ c.in-Some.is)) refl r e
