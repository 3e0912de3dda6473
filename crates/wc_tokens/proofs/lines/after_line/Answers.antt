use Rattle.std.proofs.Common.{arith}
use Rattle.std.proofs.lemmas.List.{take_rest}
use Rattle.wc_tokens.proofs.Lexing.LineLaws.{line-to, no-feed, no-feeds-past}
use Rattle.wc_tokens.proofs.lines.after_line.Goals as goal

pub returns-then-at-few : goal.returns-then-at-few
returns-then-at-few c =
    let w = c.count_to-at.ensures in
    line-to c.args.text.now c.count_to-at.result (omega (arith, w.within, c.min-few.ensures)) w.no_feed
    (λ _. w.ended c.if-at-few.true)

pub count_to-requires-clause-no_feed : goal.count_to-requires-clause-no_feed
count_to-requires-clause-no_feed c =
    let text = c.args.text.now in
    no-feeds-past text _ c.min-few.result c.count_before.result (take_rest text c.min-few.result)
    (λ k less. c.count_to-at.ensures.no_feed k (omega (arith, less, c.if-at-few.false)))
    (λ k less. no-feed _ (c.count_before.ensures.none k less))

pub returns : goal.returns
returns c =
    let w = c.count_to.ensures in
    line-to c.args.text.now c.count_to.result w.within w.no_feed w.ended
