use Rattle.std.proofs.Common.{Option, Ok, subst, arith}
use Rattle.std.proofs.lemmas.Result.{err_from_is_err_and}
use Rattle.wc_tokens.specs.declared.token.Token.{Token}
use Rattle.wc_tokens.specs.Standard.Streams.{IsRead}
use Rattle.wc_tokens.proofs.Lexing.StreamLaws.{Gives-shorter}
use Rattle.wc_parse.proofs.Tokens.Streams.{stream-first, stream-token, stream-stop, stream-end}
use Rattle.wc_parse.proofs.Saying.Passing.{stream-passes, passes-shorter}
use Rattle.wc_parse.proofs.stream.take_all.Goals as goal

pub loop-token-init : goal.loop-token-init
loop-token-init c =
    let e = c.in_ok-lexer.ensures {u = tt} in
    stream-first c.args.text.now _ _ _ e.text e.short e.utf8 c.requires.reading c.requires.draft

pub loop-token-smaller : goal.loop-token-smaller
loop-token-smaller c =
    Gives-shorter
    (subst (λ (o : Option Token). IsRead c.loop-token.lexer c.next.new.self (Ok o)) c.in-Some.is
    (c.in_ok-token.ensures {u = tt}))

pub returns-in_err-token-clause-fault : goal.returns-in_err-token-clause-fault
returns-in_err-token-clause-fault c =
    let p = err_from_is_err_and c.from_residual-in_err-token.result c.from_residual-in_err-token.ensures.1 in
    rw (p.1, p.2) (stream-stop c.in_err-token.field-0.0 c.loop-token.invariant (c.in_err-token.ensures {u = tt}).0)

pub take_token-requires-clause-few : goal.take_token-requires-clause-few
take_token-requires-clause-few c =
    (stream-token c.in-Some.token c.loop-token.invariant (c.in_ok-token.ensures {u = tt}) c.in-Some.is).few

pub take_token-requires-clause-form : goal.take_token-requires-clause-form
take_token-requires-clause-form c =
    (stream-token c.in-Some.token c.loop-token.invariant (c.in_ok-token.ensures {u = tt}) c.in-Some.is).form

pub overflow_add-at : goal.overflow_add-at
overflow_add-at c =
    let t = stream-token c.in-Some.token c.loop-token.invariant (c.in_ok-token.ensures {u = tt}) c.in-Some.is in
    let few = t.few in
    omega (arith, few)

pub loop-token-preserved : goal.loop-token-preserved
loop-token-preserved c =
    let t = stream-token c.in-Some.token c.loop-token.invariant (c.in_ok-token.ensures {u = tt}) c.in-Some.is in
    t.taken _ _ c.in-Ok-false.ensures.said

pub overflow_add-at-in-Ok-false : goal.overflow_add-at-in-Ok-false
overflow_add-at-in-Ok-false c =
    let t = stream-token c.in-Some.token c.loop-token.invariant (c.in_ok-token.ensures {u = tt}) c.in-Some.is in
    let few = t.few in
    omega (arith, few)

pub loop-token-smaller-in-Ok : goal.loop-token-smaller-in-Ok
loop-token-smaller-in-Ok c =
    let first = Gives-shorter
    (subst (λ (o : Option Token). IsRead c.loop-token.lexer c.next.new.self (Ok o)) c.in-Some.is
    (c.in_ok-token.ensures {u = tt})) in
    let others = passes-shorter c.in-Ok.ensures in
    omega (arith, first, others)

pub loop-token-preserved-in-Ok : goal.loop-token-preserved-in-Ok
loop-token-preserved-in-Ok c =
    let t = stream-token c.in-Some.token c.loop-token.invariant (c.in_ok-token.ensures {u = tt}) c.in-Some.is in
    stream-passes (t.taken _ _ c.in-Ok-true.ensures.said) c.in-Ok.ensures

pub returns-in-Err-clause-fault : goal.returns-in-Err-clause-fault
returns-in-Err-clause-fault c =
    let t = stream-token c.in-Some.token c.loop-token.invariant (c.in_ok-token.ensures {u = tt}) c.in-Some.is in
    t.refused c.in-Err.fault c.refused.result c.in-Err.ensures.fault c.refused.ensures

pub returns-clause-ok : goal.returns-clause-ok
returns-clause-ok c = stream-end c.loop-token.invariant (c.in_ok-token.ensures {u = tt}) c.in_default.is
