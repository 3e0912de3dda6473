use Rattle.wc_symbols.proofs.Spelling.StringLemmas.{StringIs-same}
use Rattle.wc_symbols.proofs.OneValue.SameSymbols.{WordIs-same}
use Rattle.wc_symbols.proofs.RangeLemmas.{fits-StringIs, fits-WordIs}
use Rattle.wc_symbols.proofs.token.symbol_of.Goals as goal

pub returns-in-Str-clause-only : goal.returns-in-Str-clause-only
returns-in-Str-clause-only c = λ s h. StringIs-same (rw c.in-Str.is at h) c.string.ensures

pub returns-in-Word-clause-only : goal.returns-in-Word-clause-only
returns-in-Word-clause-only c = λ s h. WordIs-same (rw c.in-Word.is at h) c.word.ensures

pub returns-in-Str-clause-range : goal.returns-in-Str-clause-range
returns-in-Str-clause-range c = fits-StringIs c.string.ensures

pub returns-in-Word-clause-range : goal.returns-in-Word-clause-range
returns-in-Word-clause-range c = fits-WordIs c.word.ensures
