use Rattle.std.proofs.Common.{ap}
use Rattle.wc_symbols.specs.declared.symbol.Symbol.{Symbol}
use Rattle.wc_parse.proofs.Tokens.Seen.{word-index, id-index}
use Rattle.wc_parse.proofs.externals.index_symbol.Goals as goal

pub returns-in_ok-usual_number-in-Word-clause-index : goal.returns-in_ok-usual_number-in-Word-clause-index
returns-in_ok-usual_number-in-Word-clause-index c =
    word-index _ _ c.in-Word.is (ap (λ (x : Symbol). x.kind) c.symbol_of_number.ensures)

pub returns-in-Id-clause-index : goal.returns-in-Id-clause-index
returns-in-Id-clause-index c = id-index _ c.in-Id.is
