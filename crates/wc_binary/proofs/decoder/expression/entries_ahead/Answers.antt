use Rattle.std.proofs.Common.{◌≡◌, arith}
use Rattle.wc_binary.proofs.reading.ahead.FrontEntries.{none-ahead}
use Rattle.wc_binary.proofs.decoder.expression.entries_ahead.Goals as goal

pub returns-then-not-is_due : goal.returns-then-not-is_due
returns-then-not-is_due g c = none-ahead c.args.builder.now (g.S.Source.input c.args.source.now)

pub returns : goal.returns
returns g c =
    let n = c.push_ahead-count.result in
    let all : c.pass.result ≡ n =
    omega (arith, c.pass.ensures.amount, c.front.ensures.amount, c.push_ahead-count.ensures.0) in
    (c.front.result.now, n, c.front.ensures.ahead, c.push_ahead-count.ensures, rw all at c.pass.ensures.passed)
