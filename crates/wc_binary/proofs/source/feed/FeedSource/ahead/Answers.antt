use Rattle.std.proofs.Common.{◌≤◌, ◌-◌, length, rules}
use Rattle.wc_binary.proofs.reading.ahead.Feeding.{pending-ahead}
use Rattle.wc_binary.proofs.source.feed.FeedSource.ahead.Goals as goal

pub returns-clause-ahead : goal.returns-clause-ahead
returns-clause-ahead g c =
    let f = c.args.self.now in
    let whole : f.end ≤ length f.buffer = search rules in
    let has : c.args.count ≤ f.end - f.at = search rules in
    let next = pending-ahead f.buffer f.at f.end c.args.count c.in_ok-bytes.bytes.now f.ordered whole has (search rules)
    in
    (next.0, λ w. next.1 _, c.are_bytes.ensures)
