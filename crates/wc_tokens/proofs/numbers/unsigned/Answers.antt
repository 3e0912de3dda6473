use Rattle.wc_tokens.proofs.Integers.Literals.{IsUnsigned, IsUnsigned-limited}
use Rattle.wc_tokens.proofs.numbers.unsigned.Goals.{After-limited}
use Rattle.wc_tokens.proofs.numbers.unsigned.Goals as goal

answer : (c : After-limited) → IsUnsigned c.args.bits c.args.text.now c.limited.result
answer c =
    IsUnsigned-limited c.args.bits c.largest.result c.args.text.now c.as_bytes.result.now c.natural.result c.requires
    c.largest.ensures c.as_bytes.ensures.value c.natural.ensures c.limited.ensures

pub returns-clause-value : goal.returns-clause-value
returns-clause-value c = (answer c).value

pub returns-clause-range : goal.returns-clause-range
returns-clause-range c = (answer c).range

pub returns-clause-not_a_number : goal.returns-clause-not_a_number
returns-clause-not_a_number c = (answer c).none
