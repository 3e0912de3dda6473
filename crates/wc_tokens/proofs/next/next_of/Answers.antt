use Rattle.std.proofs.Common.{ap, subst, arith}
use Rattle.wc_tokens.specs.Reading.Heads.{IsFrontOrEnd}
use Rattle.wc_tokens.proofs.Lexing.LexLaws.{Gap-shorter}
use Rattle.wc_tokens.proofs.Lexing.RunLaws.{Gaps-push}
use Rattle.wc_tokens.proofs.Lexing.FrontLaws.{left, left-after, IsFrontOrEnd-push}
use Rattle.wc_tokens.proofs.next.next_of.Goals as goal

pub head_of-requires : goal.head_of-requires
head_of-requires c = (subst (IsFrontOrEnd c.args.text.now) c.in-Some.is c.loop-next.invariant).1

pub loop-next-smaller : goal.loop-next-smaller
loop-next-smaller c =
    let before = ap left c.in-Some.is in
    let after = left-after c.in-Gap.after.now c.behind_blanks-next-in-Gap.result c.behind_blanks-next-in-Gap.ensures in
    omega (arith, before, after, Gap-shorter (c.in-Gap.ensures {u = tt}))

pub loop-next-preserved : goal.loop-next-preserved
loop-next-preserved c =
    let gaps = (subst (IsFrontOrEnd c.args.text.now) c.in-Some.is c.loop-next.invariant).0 in
    IsFrontOrEnd-push (Gaps-push gaps (c.in-Gap.ensures {u = tt})) c.behind_blanks-next-in-Gap.result
    c.behind_blanks-next-in-Gap.ensures

pub returns-in-Token : goal.returns-in-Token
returns-in-Token c =
    ((subst (IsFrontOrEnd c.args.text.now) c.in-Some.is c.loop-next.invariant).0, c.in-Token.ensures {u = tt})

pub returns-in-Stuck : goal.returns-in-Stuck
returns-in-Stuck c =
    let gaps = (subst (IsFrontOrEnd c.args.text.now) c.in-Some.is c.loop-next.invariant).0 in
    (c.in-Some.front.here.now, gaps, c.in-Stuck.ensures {u = tt})
