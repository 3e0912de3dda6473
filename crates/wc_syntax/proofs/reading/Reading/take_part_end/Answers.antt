use Rattle.std.proofs.Common.{sym, ◌∙◌, None, refl}
use Rattle.wc_syntax.specs.declared.kind.Kind.TheVariants as kind
use Rattle.wc_syntax.specs.declared.place.Move.TheVariants.{On}
use Rattle.wc_syntax.proofs.Tabled.Usual.{usual-by}
use Rattle.wc_syntax.proofs.Tabled.Parts.{part-end-at}
use Rattle.wc_syntax.proofs.reading.Reading.take_part_end.Goals as goal

pub returns-clause-read : goal.returns-clause-read
returns-clause-read c h limit at ks es r e =
    usual-by limit at ks es _ _ _ kind.Close None (On c.in-Some.place) c.self.view_is
    (part-end-at _ c.in-Some.place (sym c.behind_part.ensures ∙ c.in-Some.is)) refl r e
