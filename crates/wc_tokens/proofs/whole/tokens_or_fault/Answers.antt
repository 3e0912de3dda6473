use Rattle.std.proofs.Common.{List, [], ◌∷◌, ◌++◌, Option, Ok, ap, sym, subst, ◌∙◌}
use Rattle.std.proofs.lemmas.List.{map_push}
use Rattle.std.proofs.lemmas.Result.{err_from_is_err_and}
use Rattle.wc_tokens.specs.declared.token.Token.{Token}
use Rattle.wc_tokens.specs.Standard.Faults.{lexical}
use Rattle.wc_tokens.specs.Standard.Lexemes.{Lexes}
use Rattle.wc_tokens.specs.Standard.Streams.{Unread, IsRead}
use Rattle.wc_tokens.specs.Standard.Tokens.{lexeme_of, lexemes_of}
use Rattle.wc_tokens.proofs.Lexing.StreamLaws.{IsKept, IsKept-start, IsKept-token, IsKept-order, IsKept-end}
use Rattle.wc_tokens.proofs.Lexing.StreamLaws.{IsReading-stop, Gives-shorter}
use Rattle.wc_tokens.proofs.whole.tokens_or_fault.Goals as goal

pub loop-items-init : goal.loop-items-init
loop-items-init c =
    let e = c.in_ok-lexer.ensures {u = tt} in
    record {
      kept = subst (λ (u : Unread). IsKept c.args.text.now u (lexemes_of c.new-items.result.items)) (sym e.text)
          (IsKept-start c.args.text.now _ e.short (ap lexemes_of c.new-items.ensures.items));
      short = e.short;
      utf8 = e.utf8;
    }

pub returns-in_err-token-clause-fault : goal.returns-in_err-token-clause-fault
returns-in_err-token-clause-fault c =
    let p = err_from_is_err_and c.from_residual-in_err-token.result c.from_residual-in_err-token.ensures.1 in
    let stop = c.in_err-token.field-0.0 in
    let i = c.loop-items.invariant in
    rw (p.1, p.2)
    (lexical i.short i.utf8
    (IsReading-stop stop.at stop.why i.kept.reading (c.in_err-token.ensures {u = tt}).0))

pub loop-items-smaller : goal.loop-items-smaller
loop-items-smaller c =
    Gives-shorter
    (subst (λ (o : Option Token). IsRead c.loop-items.lexer c.next.new.self (Ok o)) c.in-Some.is
    (c.in_ok-token.ensures {u = tt}))

pub loop-items-preserved : goal.loop-items-preserved
loop-items-preserved c =
    let t = c.in-Some.token in
    let items = c.loop-items.items.items in
    let g = subst (λ (o : Option Token). IsRead c.loop-items.lexer c.next.new.self (Ok o)) c.in-Some.is
    (c.in_ok-token.ensures {u = tt}) in
    let pushed = c.push_reserved.ensures.items
    ∙ ap (λ (ts : List Token). ts ++ t ∷ []) (c.in_ok-reserve.ensures {u = tt}).items in
    let all = ap lexemes_of pushed ∙ map_push lexeme_of items t in
    record {
      kept = subst (IsKept c.args.text.now c.next.new.self) (sym all)
          (IsKept-token (lexemes_of items) (lexeme_of t) c.loop-items.invariant.kept g);
      short = c.loop-items.invariant.short;
      utf8 = c.loop-items.invariant.utf8;
    }

pub new-requires-2 : goal.new-requires-2
new-requires-2 c =
    let g = subst (λ (o : Option Token). IsRead c.loop-items.lexer c.next.new.self (Ok o)) c.in_default.is
    (c.in_ok-token.ensures {u = tt}) in
    IsKept-order c.loop-items.invariant.kept g.0

pub returns-clause-tokens : goal.returns-clause-tokens
returns-clause-tokens c =
    let g = subst (λ (o : Option Token). IsRead c.loop-items.lexer c.next.new.self (Ok o)) c.in_default.is
    (c.in_ok-token.ensures {u = tt}) in
    subst (Lexes c.args.text.now) (sym c.new-2.ensures)
    (record {
      short = c.loop-items.invariant.short;
      utf8 = c.loop-items.invariant.utf8;
      lexed = IsKept-end c.loop-items.invariant.kept g.0;
    })
