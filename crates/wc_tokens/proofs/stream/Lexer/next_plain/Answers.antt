use Rattle.std.proofs.Common.{refl}
use Rattle.wc_tokens.specs.declared.token.TokenKind.TheVariants.{Str}
use Rattle.wc_tokens.proofs.Lexing.RunLaws.{EndsWith-token, StandsIn-token}
use Rattle.wc_tokens.proofs.Lexing.StreamLaws.{lexeme, Gives-token}
use Rattle.wc_tokens.proofs.Escapes.PlainLaws.{plain-token, plain-part}
use Rattle.wc_tokens.proofs.stream.Lexer.next_plain.Goals as goal

pub span_of-span-requires : goal.span_of-span-requires
span_of-span-requires c =
    let n = c.in_ok-string.ensures in
    (Str, StandsIn-token Str c.self.invariant n.gaps (plain-token n.string))

pub invariant_of-self : goal.invariant_of-self
invariant_of-self c =
    let n = c.in_ok-string.ensures in
    EndsWith-token Str c.self.invariant n.gaps (plain-token n.string)

pub returns-clause-read : goal.returns-clause-read
returns-clause-read c =
    let n = c.in_ok-string.ensures in
    let span = c.span_of-span in
    let stands = StandsIn-token Str c.self.invariant n.gaps (plain-token n.string) in
    let text = span.ensures.text Str stands in
    rw (← c.self.view_is) (record {
      lexeme = lexeme Str span.result.text.now span.result.start span.result.stop;
      gives = Gives-token Str span.result.text.now span.result.start span.result.stop n.gaps (plain-token n.string) text
          span.ensures.start span.ensures.stop;
      kind = refl;
      string = plain-part n.string span.result.text.now c.in_ok-part.part.now c.saturating_sub-last.result text
          c.saturating_sub-last.ensures c.in_ok-part.ensures.cases.0;
    })
