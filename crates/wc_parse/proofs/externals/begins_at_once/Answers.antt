use Rattle.std.proofs.Common.{◌≡◌, sym, ◌∙◌, subst, rules}
use denote.Enum.Bare.{same_true}
use Rattle.wc_syntax.specs.contracts.kind.Kind.{the_type}
use Rattle.wc_syntax.specs.declared.kind.Kind.{Kind}
use Rattle.wc_symbols.specs.Standard.Symbols.{bare}
use Rattle.wc_symbols.specs.Standard.Words.{WordIs}
use Rattle.wc_parse.proofs.Tokens.Seen.{opened-found}
use Rattle.wc_parse.proofs.externals.begins_at_once.Goals as goal

pub returns-then-eq-clause-found : goal.returns-then-eq-clause-found
returns-then-eq-clause-found c =
    let same : c.in_ok-found.found ≡ c.args.kind =
    same_true the_type (search rules) _ _ (sym c.eq.ensures ∙ c.if-eq.true) in
    opened-found c.args.ahead.now c.next_opened.new.self c.next_opened.result c.next_opened.ensures.read
    (subst (λ (k : Kind). WordIs c.args.word.now (bare k)) same (c.in_ok-found.ensures {u = tt}))
