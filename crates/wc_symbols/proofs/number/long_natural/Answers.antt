use Rattle.std.proofs.Common.{refl, arith}
use Rattle.wc_symbols.proofs.Spelling.NumberLemmas.{natural-32, natural-64, natural-above, natural-none}
use Rattle.wc_symbols.proofs.number.long_natural.Goals as goal

pub returns-in-Value : goal.returns-in-Value
returns-in-Value c =
    let is = (c.in-Value.ensures.value c.in-Value.number).0 refl in
    natural-32 _ c.in-Value.number _ is.0 (omega arith) c.valued.ensures

pub returns-in-Value-2 : goal.returns-in-Value-2
returns-in-Value-2 c =
    let is = (c.in-Value.ensures.value c.in-Value.number).0 refl in
    natural-64 _ c.in-Value.number _ is.0 (omega arith) is.1 c.valued-in-Value-2.ensures

pub returns-in-Range : goal.returns-in-Range
returns-in-Range c =
    let is = c.in-Range.ensures.range.0 refl in
    natural-above _ is.0 _ is.1 is.2 c.bare.ensures

pub returns-in-NotANumber : goal.returns-in-NotANumber
returns-in-NotANumber c =
    natural-none _ _ (c.in-NotANumber.ensures.not_a_number.0 refl) c.bare-in-NotANumber.ensures
