use Rattle.std.proofs.Common.{arith}
use Rattle.wc_tokens.proofs.Lexing.RunLaws.{EndsWith-token, EndsWith-shorter, Gaps-shorter, Stuck-shorter}
use Rattle.wc_tokens.proofs.Lexing.RunLaws.{token-shorter}
use Rattle.wc_tokens.proofs.Lexing.StreamLaws.{IsPassed-token, IsPassed-end, Stops-behind}
use Rattle.wc_tokens.proofs.stream.Lexer.check_rest.Goals as goal

pub loop-behind-smaller : goal.loop-behind-smaller
loop-behind-smaller c =
    let n = c.in-Token.ensures in
    omega (arith, Gaps-shorter n.0, token-shorter _ _ _ n.1)

pub loop-behind-preserved : goal.loop-behind-preserved
loop-behind-preserved c =
    let n = c.in-Token.ensures in
    record {
      passed = IsPassed-token _ c.loop-behind.invariant.passed n.0 n.1;
      ends = EndsWith-token _ c.loop-behind.invariant.ends n.0 n.1;
    }

pub returns-in-End : goal.returns-in-End
returns-in-End c = rw (← c.self.view_is) (IsPassed-end c.loop-behind.invariant.passed c.in-End.ensures)

pub stop_of-requires : goal.stop_of-requires
stop_of-requires c =
    let n = c.in-Stuck.ensures in
    omega (arith, EndsWith-shorter c.loop-behind.invariant.ends, Gaps-shorter n.1, Stuck-shorter n.2)

pub returns-in-Stuck : goal.returns-in-Stuck
returns-in-Stuck c =
    let n = c.in-Stuck.ensures in
    rw (← c.self.view_is)
    (c.loop-behind.invariant.passed.stops _ _ (Stops-behind n.1 n.2 c.stop_of.ensures.at c.stop_of.ensures.why))
