use Rattle.std.proofs.Common.{arith, ◌≡◌, ◌≤◌, ◌+◌, ◌-◌, length, refl, ◌∙◌, rules}
use Rattle.wc_binary.proofs.reading.ahead.Feeding.{pending-split, pending-front}
use Rattle.wc_binary.proofs.source.feed.FeedSource.front.Goals as goal

pub returns-clause-ahead : goal.returns-clause-ahead
returns-clause-ahead g c =
    let f = c.args.self.now in
    let n = c.min-count.result in
    let le : f.at + n ≤ f.end = omega (arith, c.min-count.ensures, f.ordered) in
    let same : f.at + n - f.at ≡ n = omega arith in
    let whole : f.end ≤ length f.buffer = search rules in
    (refl, λ w. pending-front f.buffer f.at f.end n _ same le whole _, c.are_bytes.ensures)

pub returns-clause-amount : goal.returns-clause-amount
returns-clause-amount g c =
    let f = c.args.self.now in
    let n = c.min-count.result in
    let le : f.at + n ≤ f.end = omega (arith, c.min-count.ensures, f.ordered) in
    let same : f.at + n - f.at ≡ n = omega arith in
    let whole : f.end ≤ length f.buffer = search rules in
    (pending-split f.buffer f.at f.end n _ same le whole).0 ∙ c.min-count.ensures
