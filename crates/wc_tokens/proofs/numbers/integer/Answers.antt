use Rattle.wc_tokens.proofs.Integers.Literals.{IsInteger, IsInteger-plus, IsInteger-minus, IsInteger-unsigned}
use Rattle.wc_tokens.proofs.numbers.integer.Goals.{After-limited, After-negated, After-limited-2}
use Rattle.wc_tokens.proofs.numbers.integer.Goals as goal

plus : (c : After-limited) → IsInteger c.args.bits c.args.text.now c.limited.result
plus c =
    IsInteger-plus c.args.bits c.largest-max.result c.args.text.now c.as_bytes-text.result.now c.in-Some.digits.now
    c.natural.result c.requires c.largest-max.ensures c.as_bytes-text.ensures.value c.in-Some.ensures c.natural.ensures
    c.limited.ensures

minus : (c : After-negated) → IsInteger c.args.bits c.args.text.now c.negated.result
minus c =
    IsInteger-minus c.args.bits c.largest-max.result c.args.text.now c.as_bytes-text.result.now
    c.in-Some-behind.digits.now c.natural-in-Some-behind.result c.requires c.largest-max.ensures
    c.as_bytes-text.ensures.value c.in-Some-behind.ensures c.natural-in-Some-behind.ensures c.negated.ensures

unsigned : (c : After-limited-2) → IsInteger c.args.bits c.args.text.now c.limited-2.result
unsigned c =
    IsInteger-unsigned c.args.bits c.largest-max.result c.args.text.now c.as_bytes-text.result.now c.natural-2.result
    c.requires c.largest-max.ensures c.as_bytes-text.ensures.value (rw c.in_default.is at c.behind.ensures)
    (rw c.in_default-behind.is at c.behind-2.ensures) c.natural-2.ensures c.limited-2.ensures

pub returns-in-Some-clause-value : goal.returns-in-Some-clause-value
returns-in-Some-clause-value c = (plus c).value

pub returns-in-Some-clause-range : goal.returns-in-Some-clause-range
returns-in-Some-clause-range c = (plus c).range

pub returns-in-Some-clause-not_a_number : goal.returns-in-Some-clause-not_a_number
returns-in-Some-clause-not_a_number c = (plus c).none

pub returns-in-Some-behind-clause-value : goal.returns-in-Some-behind-clause-value
returns-in-Some-behind-clause-value c = (minus c).value

pub returns-in-Some-behind-clause-range : goal.returns-in-Some-behind-clause-range
returns-in-Some-behind-clause-range c = (minus c).range

pub returns-in-Some-behind-clause-not_a_number : goal.returns-in-Some-behind-clause-not_a_number
returns-in-Some-behind-clause-not_a_number c = (minus c).none

pub returns-clause-value : goal.returns-clause-value
returns-clause-value c = (unsigned c).value

pub returns-clause-range : goal.returns-clause-range
returns-clause-range c = (unsigned c).range

pub returns-clause-not_a_number : goal.returns-clause-not_a_number
returns-clause-not_a_number c = (unsigned c).none
