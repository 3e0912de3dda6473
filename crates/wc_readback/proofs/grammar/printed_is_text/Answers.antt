use Rattle.std.proofs.Common.{arith}
use Rattle.wc_body.specs.Standard.Nested.{nesting_limit}
use Rattle.wc_readback.proofs.GrammarLemmas.Modules.{module-means}
use Rattle.wc_readback.proofs.grammar.printed_is_text.Goals as goal

pub returns : goal.returns
returns c = λ m h. (module-means nesting_limit (omega arith) m h).derives 0
