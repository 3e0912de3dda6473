use Rattle.std.proofs.Common.{List, sym, subst, arith}
use Rattle.std.proofs.lemmas.Result.{err_from_is_err_and}
use Rattle.wc_tokens.specs.Standard.Lexemes.{Lexeme}
use Rattle.wc_tokens.specs.Standard.Tokens.{InOrder, lexemes_of}
use Rattle.wc_symbols.proofs.Forms.{form-at}
use Rattle.wc_parse.specs.Kept.SaidSoFar.{IsAllSaid}
use Rattle.wc_parse.proofs.Tokens.Forms.{few-at, lexemes-at, all-lexemes}
use Rattle.wc_parse.proofs.Saying.Said.{said-first}
use Rattle.wc_parse.proofs.fields.take_each.Goals as goal

pub loop-at-init : goal.loop-at-init
loop-at-init c = record {
  within = omega arith;
  said = said-first _ _ _ c.requires.reading c.requires.draft;
}

pub take_token-requires-clause-few : goal.take_token-requires-clause-few
take_token-requires-clause-few c =
    few-at c.as_slice-all.result.now c.loop-at.at
    (rw c.as_slice-all.ensures.tokens c.as_slice-all.ensures.in_order) c.loop-at-test.true

pub take_token-requires-clause-form : goal.take_token-requires-clause-form
take_token-requires-clause-form c =
    form-at 0 c.as_slice-all.result.now c.loop-at.at _
    (rw c.as_slice-all.ensures.tokens c.as_slice-all.ensures.in_order) c.loop-at-test.true

pub returns-in_err-take_token-clause-fault : goal.returns-in_err-take_token-clause-fault
returns-in_err-take_token-clause-fault c =
    let p = err_from_is_err_and c.from_residual.result c.from_residual.ensures.1 in
    let all = c.as_slice-all.result.now in
    let o : InOrder 0 (lexemes_of all) = rw c.as_slice-all.ensures.tokens c.as_slice-all.ensures.in_order in
    rw (p.1, p.2, sym c.as_slice-all.ensures.tokens)
    (c.in_err-take_token.ensures.fault (lexemes_of all) _ c.loop-at.invariant.said
    (lexemes-at all c.loop-at.at _ c.loop-at-test.true) o)

pub loop-at-preserved : goal.loop-at-preserved
loop-at-preserved c =
    let all = c.as_slice-all.result.now in
    record {
      within = omega arith;
      said = c.in_ok-take_token.ensures.said (lexemes_of all) _ c.loop-at.invariant.said
          (lexemes-at all c.loop-at.at _ c.loop-at-test.true);
    }

pub returns-clause-ok : goal.returns-clause-ok
returns-clause-ok c =
    let all = c.as_slice-all.result.now in
    let o : InOrder 0 (lexemes_of all) = rw c.as_slice-all.ensures.tokens c.as_slice-all.ensures.in_order in
    let e = all-lexemes all c.loop-at.at c.loop-at.invariant.within c.loop-at-test.false in
    subst (λ (ts : List Lexeme). IsAllSaid ts c.loop-at.at c.loop-at.reading c.loop-at.draft)
    c.as_slice-all.ensures.tokens (record { in_order = o; all = e; said = c.loop-at.invariant.said })
