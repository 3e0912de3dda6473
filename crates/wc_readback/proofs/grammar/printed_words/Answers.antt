use Rattle.std.proofs.Common.{length, refl}
use Rattle.wc_print.specs.Standard.Printed.{text, lexemes}
use Rattle.wc_print.specs.Standard.Layout.{layout}
use Rattle.wc_readback.specs.Grammar.FieldSigns.{signs}
use Rattle.wc_readback.specs.Grammar.Kept.{symbols}
use Rattle.wc_readback.proofs.GrammarLemmas.Same.{whole}
use Rattle.wc_readback.proofs.GrammarLemmas.Standing.{standing}
use Rattle.wc_readback.proofs.grammar.printed_words.Goals as goal

pub returns : goal.returns
returns c = λ m.
    standing (lexemes (layout m)) (symbols m) (length (text (layout m))) 0 (layout m) (signs m) refl refl (whole m).same
