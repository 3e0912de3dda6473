use Rattle.std.proofs.Common.{refl, arith, inl, inr}
use Rattle.wc_symbols.proofs.Spelling.NumberLemmas.{signed-32, signed-64, signed-beyond, signed-none}
use Rattle.wc_symbols.proofs.number.long_signed.Goals as goal

pub returns-in-Value : goal.returns-in-Value
returns-in-Value c =
    let is = (c.in-Value.ensures.value c.in-Value.bits).0 refl in
    signed-32 _ is.0 c.in-Value.bits _ c.requires is.1 is.2 is.3 (elim c.if-bits-ge18446744071562067968.either [
      | inl low ↦ inl low
      | inr high ↦ inr high.1
    ]) c.valued.ensures

pub returns-in-Value-2 : goal.returns-in-Value-2
returns-in-Value-2 c =
    let is = (c.in-Value.ensures.value c.in-Value.bits).0 refl in
    signed-64 _ is.0 c.in-Value.bits _ c.requires is.1 is.2 is.3 (omega arith) (omega arith) c.valued-in-Value-2.ensures

pub returns-in-Range : goal.returns-in-Range
returns-in-Range c =
    let is = c.in-Range.ensures.range.0 refl in
    signed-beyond _ is.0 _ c.requires is.1 is.2 c.bare.ensures

pub returns-in-NotANumber : goal.returns-in-NotANumber
returns-in-NotANumber c =
    signed-none _ _ (c.in-NotANumber.ensures.not_a_number.0 refl) c.bare-in-NotANumber.ensures
