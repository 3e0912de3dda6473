use Rattle.std.proofs.Common.{◌-◌, ◌*◌, ◌+◌, ◌/◌, ◌%◌, ◌≡◌, ◌<◌, ◌≤◌, true, false, arith, rules}
use Rattle.std.proofs.lemmas.Bool.{leb-true}
use Rattle.wc_body.proofs.Drafts.Runs.IntegerFronts.{last-two-of-32}
use Rattle.wc_body.proofs.runs.integers.are_last_of_32.Goals as goal

pub returns-then-second-lt8 : goal.returns-then-second-lt8
returns-then-second-lt8 c is =
    let n = c.args.first - 128 + 128 * c.args.second in
    let byte : c.args.first < 256 = search rules in
    let bits : 64 ≤ n = omega (arith, leb-true 64 _ is, c.from.ensures, c.from-then-second-lt8.ensures) in
    let low : 128 + n % 128 ≡ c.args.first = omega (arith, byte, c.requires) in
    let high : n / 128 ≡ c.args.second = omega (arith, byte, c.requires) in
    last-two-of-32 false n c.args.first c.args.second bits (omega (arith, byte, c.if-second-lt8.true)) low high

pub returns : goal.returns
returns c is =
    let n = 255 - c.args.first + 128 * (127 - c.args.second) in
    let byte : c.args.first < 256 = search rules in
    let few : c.args.second < 128 = search rules in
    let many : 120 ≤ c.args.second = search rules in
    let bits : 64 ≤ n = omega (arith, leb-true 64 _ is, c.from-2.ensures, c.from-3.ensures) in
    let low : 128 + (127 - n % 128) ≡ c.args.first = omega (arith, byte, c.requires) in
    let high : 127 - n / 128 ≡ c.args.second = omega (arith, byte, c.requires, few) in
    last-two-of-32 true n c.args.first c.args.second bits (omega (arith, byte, many, c.requires)) low high
