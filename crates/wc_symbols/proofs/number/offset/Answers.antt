use Rattle.wc_symbols.proofs.Spelling.NumberLemmas.{offset-number, offset-range, offset-form}
use Rattle.wc_symbols.proofs.number.offset.Goals as goal

pub returns-in-Value : goal.returns-in-Value
returns-in-Value c = offset-number _ c.in-Value.number _ c.in-Value.ensures.0 c.in-Value.ensures.1 c.valued.ensures

pub returns-in-Range : goal.returns-in-Range
returns-in-Range c = offset-range _ _ c.in-Range.ensures c.bare.ensures

pub returns-in-NotANumber : goal.returns-in-NotANumber
returns-in-NotANumber c = offset-form _ _ c.in-NotANumber.ensures c.bare-in-NotANumber.ensures
