use Rattle.std.proofs.Common.{sym, ◌∙◌, None, refl}
use Rattle.wc_syntax.specs.declared.place.Frame.TheVariants as frame
use Rattle.wc_syntax.specs.declared.place.Move.TheVariants.{Turn}
use Rattle.wc_syntax.proofs.Tabled.Usual.{usual-by}
use Rattle.wc_syntax.proofs.Tabled.Parts.{first-word-at}
use Rattle.wc_syntax.proofs.reading.Reading.take_first_word.Goals as goal

pub returns-then-opens_func-clause-read : goal.returns-then-opens_func-clause-read
returns-then-opens_func-clause-read c h limit at ks es r e =
    usual-by limit at ks es _ _ _ c.args.kind None (Turn c.in-Some.place frame.FuncHead) c.self.view_is
    (first-word-at _ c.args.kind c.in-Some.place (sym c.opens_func.ensures ∙ c.if-opens_func.true)
    (sym c.first_part.ensures ∙ c.in-Some.is)) refl r e
