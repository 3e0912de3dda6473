use Rattle.std.proofs.Common.{◌^◌}
use Rattle.wc_tokens.proofs.Integers.NumberLaws.{IsNum-hexadecimal, IsNum-decimal}
use Rattle.wc_tokens.proofs.numbers.natural.Goals as goal

pub returns-in-Some : goal.returns-in-Some
returns-in-Some c =
    IsNum-hexadecimal c.whole.result (2 ^ 64) c.in-Some.digits.now c.args.text.now c.in-Some.ensures c.whole.ensures

pub returns-in-None : goal.returns-in-None
returns-in-None c =
    IsNum-decimal c.whole-in-None.result (2 ^ 64) c.args.text.now c.in-None.ensures c.whole-in-None.ensures
