use Rattle.std.proofs.Common.{drop, length-drop, arith, sym, ◌∙◌}
use Rattle.wc_tokens.proofs.Integers.NumberLaws.{fitting-some, fitting-none, no-digits, more-behind, all-digits}
use Rattle.wc_tokens.proofs.numbers.whole.Goals as goal

pub returns-in_default : goal.returns-in_default
returns-in_default c =
    no-digits c.args.base c.requires.low c.requires.high c.args.text.now
    (rw c.in_default.is at c.digits.ensures.scanned)

pub returns-then-run-text : goal.returns-then-run-text
returns-then-run-text c =
    let rest = drop c.in-Some.run'.len c.args.text.now in
    more-behind c.args.base c.requires.low c.requires.high c.args.text.now rest c.in-Some.run'.value
    (omega (arith, length-drop c.in-Some.run'.len c.args.text.now)) c.in-Some.ensures.scanned

pub returns-in-Some-value : goal.returns-in-Some-value
returns-in-Some-value c =
    let rest = drop c.in-Some.run'.len c.args.text.now in
    let all = all-digits c.args.base c.requires.low c.requires.high c.args.text.now rest c.in-Some.run'.value
    (omega (arith, length-drop c.in-Some.run'.len c.args.text.now)) c.in-Some.ensures.scanned in
    let same = fitting-some all.0 c.in-Some-value.n (sym all.2 ∙ c.in-Some-value.is) in
    (rw same.0 all.1, rw same.0 same.1)

pub returns-in-None : goal.returns-in-None
returns-in-None c =
    let rest = drop c.in-Some.run'.len c.args.text.now in
    let all = all-digits c.args.base c.requires.low c.requires.high c.args.text.now rest c.in-Some.run'.value
    (omega (arith, length-drop c.in-Some.run'.len c.args.text.now)) c.in-Some.ensures.scanned in
    (all.0, all.1, fitting-none all.0 (sym all.2 ∙ c.in-None.is))
