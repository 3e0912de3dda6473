use Rattle.std.proofs.Common.{sym, ◌∙◌, None, refl}
use Rattle.wc_syntax.specs.declared.place.Move.TheVariants.{On}
use Rattle.wc_syntax.proofs.Tabled.Usual.{usual-by}
use Rattle.wc_syntax.proofs.Tabled.Parts.{part-word-at}
use Rattle.wc_syntax.proofs.reading.Reading.take_part_word.Goals as goal

pub returns-clause-read : goal.returns-clause-read
returns-clause-read c h limit at ks es r e =
    usual-by limit at ks es _ _ _ c.args.kind None (On c.in-Some.place) c.self.view_is
    (part-word-at _ c.args.kind c.in-Some.place (sym c.begun_part.ensures ∙ c.in-Some.is)) refl r e
