use Rattle.std.proofs.Common.{arith, refl}
use Rattle.wc_tokens.proofs.Lexing.RunLaws.{EndsWith-token, EndsWith-shorter, StandsIn-token, Gaps-shorter}
use Rattle.wc_tokens.proofs.Lexing.RunLaws.{Stuck-shorter}
use Rattle.wc_tokens.proofs.Lexing.StreamLaws.{Gives-token, Stops-behind}
use Rattle.wc_tokens.proofs.stream.Lexer.next.Goals as goal

pub span_of-span-requires : goal.span_of-span-requires
span_of-span-requires c =
    let n = c.in-Token.ensures in
    (c.in-Token.kind, StandsIn-token c.in-Token.kind c.self.invariant n.0 n.1)

pub invariant_of-self : goal.invariant_of-self
invariant_of-self c =
    let n = c.in-Token.ensures in
    EndsWith-token c.in-Token.kind c.self.invariant n.0 n.1

pub stop_of-requires : goal.stop_of-requires
stop_of-requires c =
    let n = c.in-Stuck.ensures in
    omega (arith, EndsWith-shorter c.self.invariant, Gaps-shorter n.1, Stuck-shorter n.2)

pub returns-in-Token : goal.returns-in-Token
returns-in-Token c =
    let n = c.in-Token.ensures in
    let stands = StandsIn-token c.in-Token.kind c.self.invariant n.0 n.1 in
    rw (← c.self.view_is)
    (Gives-token c.in-Token.kind c.span_of-span.result.text.now c.span_of-span.result.start c.span_of-span.result.stop
    n.0 n.1 (c.span_of-span.ensures.text c.in-Token.kind stands) c.span_of-span.ensures.start
    c.span_of-span.ensures.stop)

pub returns-in-Stuck : goal.returns-in-Stuck
returns-in-Stuck c =
    let n = c.in-Stuck.ensures in
    rw (← c.self.view_is) (Stops-behind n.1 n.2 c.stop_of.ensures.at c.stop_of.ensures.why, refl)
