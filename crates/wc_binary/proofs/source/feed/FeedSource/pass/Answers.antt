use Rattle.std.proofs.Common.{arith, ◌≡◌, ◌≤◌, ◌+◌, ◌-◌, length, refl, rules}
use Rattle.wc_binary.proofs.reading.ahead.Feeding.{pending-dropped}
use Rattle.wc_binary.proofs.source.feed.FeedSource.pass.Goals as goal

pub returns-clause-passed : goal.returns-clause-passed
returns-clause-passed g c =
    let f = c.args.self.now in
    let n = c.min-count.result in
    let le : f.at + n ≤ f.end = omega (arith, c.min-count.ensures, f.ordered) in
    let most : n ≤ c.args.most = omega (arith, c.min-count.ensures) in
    let same : f.at + n - f.at ≡ n = omega arith in
    let whole : f.end ≤ length f.buffer = search rules in (
      record {
        forward = omega (arith, le, f.ordered, f.counted);
        failed = refl;
        spent = refl;
        asked = λ e. refl;
        lender = refl;
      },
      most,
      omega (arith, le, f.ordered, f.counted),
      λ w.
          let dropped = pending-dropped f.buffer f.at f.end n _ same le whole c.are_bytes.ensures _ _ refl in
          (w, dropped.0, dropped.1, dropped.2),
    )
