use Rattle.std.proofs.Common.{arith, ◌≡◌, ◌≤◌, ◌+◌, ◌-◌, length, refl, rules}
use Rattle.wc_binary.proofs.reading.ahead.Feeding.{pending-split}
use Rattle.wc_binary.proofs.source.feed.FeedSource.take.Goals as goal

pub returns-clause-taken : goal.returns-clause-taken
returns-clause-taken g c =
    let f = c.args.self.now in
    let n = c.min-count.result in
    let le : f.at + n ≤ f.end = omega (arith, c.min-count.ensures, f.ordered) in
    let most : n ≤ c.args.most = omega (arith, c.min-count.ensures) in
    let same : f.at + n - f.at ≡ n = omega arith in
    let whole : f.end ≤ length f.buffer = search rules in
    let split = pending-split f.buffer f.at f.end n _ same le whole in (
      _,
      c.in_ok-extend_from_slice.ensures.items,
      rw split.0 most,
      (
        record {
          forward = omega (arith, le, f.ordered, f.counted);
          failed = refl;
          spent = refl;
          asked = λ e. refl;
          lender = refl;
        },
        rw split.0 (omega (arith, le, f.ordered, f.counted)),
        λ w. (w, split.1 _),
        c.are_bytes.ensures,
      ),
    )
