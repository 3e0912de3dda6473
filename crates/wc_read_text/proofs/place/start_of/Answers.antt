use Rattle.std.proofs.Common.{Option, Ok, subst, arith}
use Rattle.std.proofs.lemmas.Result.{err_from_is_err_and}
use Rattle.wc_tokens.specs.declared.token.Token.{Token}
use Rattle.wc_tokens.specs.Standard.Streams.{IsRead}
use Rattle.wc_tokens.specs.Standard.Tokens.{lexeme_of}
use Rattle.wc_tokens.proofs.Lexing.LexLaws.{Lexes-FirstFault}
use Rattle.wc_tokens.proofs.Lexing.StreamLaws.{Gives-shorter}
use Rattle.wc_read_text.proofs.Places.{at-start, at-token, at-place, at-end, at-fault}
use Rattle.wc_read_text.proofs.place.start_of.Goals as goal

pub loop-found-init : goal.loop-found-init
loop-found-init c = record {
  within = omega arith;
  reading = at-start c.args.text.now _ (c.in_ok-lexer.ensures {u = tt}).text;
}

pub loop-found-smaller : goal.loop-found-smaller
loop-found-smaller c =
    Gives-shorter
    (subst (λ (o : Option Token). IsRead c.loop-found.lexer c.next.new.self (Ok o)) c.in-Some.is
    (c.in_ok-found.ensures {u = tt}))

pub loop-found-preserved : goal.loop-found-preserved
loop-found-preserved c = record {
  within = let l = c.loop-found.invariant.within in let n = c.if-at-token.false in omega (arith, l, n);
  reading = at-token (lexeme_of c.in-Some.found) c.loop-found.invariant.reading
      (subst (λ (o : Option Token). IsRead c.loop-found.lexer c.next.new.self (Ok o)) c.in-Some.is
      (c.in_ok-found.ensures {u = tt}));
}

pub returns-in_err-lexer-clause-fault : goal.returns-in_err-lexer-clause-fault
returns-in_err-lexer-clause-fault c =
    let p = err_from_is_err_and c.from_residual.result c.from_residual.ensures.1 in
    rw p.1 (λ ts h. Lexes-FirstFault h (c.in_err-lexer.ensures {u = tt}).fault)

pub returns-in_err-found-clause-fault : goal.returns-in_err-found-clause-fault
returns-in_err-found-clause-fault c =
    let p = err_from_is_err_and c.from_residual-in_err-found.result c.from_residual-in_err-found.ensures.1 in
    rw p.1
    (at-fault c.in_err-found.field-0.0 c.loop-found.invariant.reading (c.in_err-found.ensures {u = tt}).0)

pub returns-then-at-token-clause-at : goal.returns-then-at-token-clause-at
returns-then-at-token-clause-at c =
    at-place (lexeme_of c.in-Some.found) c.args.token c.loop-found.invariant.reading
    (subst (λ (o : Option Token). IsRead c.loop-found.lexer c.next.new.self (Ok o)) c.in-Some.is
    (c.in_ok-found.ensures {u = tt}))
    c.if-at-token.true

pub returns-clause-at : goal.returns-clause-at
returns-clause-at c =
    let g = subst (λ (o : Option Token). IsRead c.loop-found.lexer c.next.new.self (Ok o)) c.in_default.is
    (c.in_ok-found.ensures {u = tt}) in
    at-end c.args.token c.loop-found.invariant.reading g.0 c.loop-found.invariant.within
