use Rattle.std.proofs.Common.{arith, length}
use Rattle.wc_body.specs.Standard.Nested.{nesting_limit}
use Rattle.wc_print.specs.Standard.Printed.{text}
use Rattle.wc_print.specs.Standard.Layout.{layout}
use Rattle.wc_readback.specs.Grammar.FieldSigns.{signs}
use Rattle.wc_readback.proofs.GrammarLemmas.Modules.{module-means}
use Rattle.wc_readback.proofs.GrammarLemmas.Same.{whole}
use Rattle.wc_readback.proofs.GrammarLemmas.Told.{told}
use Rattle.wc_readback.proofs.grammar.printed_symbols.Goals as goal

pub returns : goal.returns
returns c = λ m h.
    told (length (text (layout m))) (layout m) (signs m) (whole m).same
    (module-means nesting_limit (omega arith) m h).says
