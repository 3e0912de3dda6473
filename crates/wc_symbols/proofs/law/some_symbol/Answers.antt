use Rattle.wc_symbols.proofs.SomeValue.SomeSymbols.{some-symbol, some-lexes}
use Rattle.wc_symbols.proofs.law.some_symbol.Goals as goal

pub returns-clause-token : goal.returns-clause-token
returns-clause-token c = some-symbol

pub returns-clause-text : goal.returns-clause-text
returns-clause-text c = some-lexes
