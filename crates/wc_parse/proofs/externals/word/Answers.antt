use Rattle.std.proofs.Common.{◌≡◌, sym, ◌∙◌, subst, rules}
use denote.Enum.Bare.{same_true}
use Rattle.wc_syntax.specs.contracts.kind.Kind.{the_type}
use Rattle.wc_syntax.specs.declared.kind.Kind.{Kind}
use Rattle.wc_parse.specs.Kept.Passing.{IsBare}
use Rattle.wc_parse.proofs.externals.word.Goals as goal

pub returns-then-eq : goal.returns-then-eq
returns-then-eq c =
    let same : c.in_ok-found.found ≡ c.args.kind =
    same_true the_type (search rules) _ _ (sym c.eq.ensures ∙ c.if-eq.true) in
    subst (λ (k : Kind). IsBare c.args.ahead.now k c.keyword.new.ahead) same c.in_ok-found.ensures
