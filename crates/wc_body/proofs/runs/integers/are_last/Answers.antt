use Rattle.std.proofs.Common.{◌-◌, ◌*◌, ◌+◌, ◌/◌, ◌%◌, ◌≡◌, ◌<◌, ◌≤◌, true, false, arith, rules}
use Rattle.std.proofs.lemmas.Bool.{leb-true}
use Rattle.wc_body.proofs.Drafts.Runs.IntegerFronts.{last-two}
use Rattle.wc_body.proofs.runs.integers.are_last.Goals as goal

pub returns-then-second-lt64 : goal.returns-then-second-lt64
returns-then-second-lt64 c is =
    let n = c.args.first - 128 + 128 * c.args.second in
    let byte : c.args.first < 256 = search rules in
    let bits : 64 ≤ n = omega (arith, leb-true 64 _ is, c.from.ensures, c.from-then-second-lt64.ensures) in
    let low : 128 + n % 128 ≡ c.args.first = omega (arith, byte, c.requires) in
    let high : n / 128 ≡ c.args.second = omega (arith, byte, c.requires) in
    last-two false n c.args.first c.args.second bits (omega (arith, byte)) low high

pub returns-then-second-lt128 : goal.returns-then-second-lt128
returns-then-second-lt128 c is =
    let n = 255 - c.args.first + 128 * (127 - c.args.second) in
    let byte : c.args.first < 256 = search rules in
    let bits : 64 ≤ n =
    omega (arith, leb-true 64 _ is, c.from-then-second-lt128.ensures, c.from-then-second-lt128-2.ensures) in
    let low : 128 + (127 - n % 128) ≡ c.args.first = omega (arith, byte, c.requires) in
    let high : 127 - n / 128 ≡ c.args.second = omega (arith, byte, c.requires) in
    last-two true n c.args.first c.args.second bits (omega (arith, byte)) low high
