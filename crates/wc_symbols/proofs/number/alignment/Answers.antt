use Rattle.wc_symbols.proofs.Spelling.NumberLemmas.{align-power, align-none, align-range, align-form}
use Rattle.wc_symbols.proofs.number.alignment.Goals as goal

pub returns-in-Some : goal.returns-in-Some
returns-in-Some c =
    align-power _ c.in-Value.number c.in-Some.exponent _ c.in-Value.ensures.0 c.in-Some.ensures.0 c.in-Some.ensures.1
    c.valued.ensures

pub returns-in-None : goal.returns-in-None
returns-in-None c =
    align-none _ c.in-Value.number _ c.in-Value.ensures.0 c.in-Value.ensures.1 c.in-None.ensures c.bare.ensures

pub returns-in-Range : goal.returns-in-Range
returns-in-Range c = align-range _ _ c.in-Range.ensures c.bare-in-Range.ensures

pub returns-in-NotANumber : goal.returns-in-NotANumber
returns-in-NotANumber c = align-form _ _ c.in-NotANumber.ensures c.bare-in-NotANumber.ensures
