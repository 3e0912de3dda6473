use Rattle.std.proofs.Common.{◌++◌, ◌∙◌, ap, rules}
use Rattle.wc_body.proofs.runs.front.begin_front.Goals as goal

pub returns-clause-some : goal.returns-clause-some
returns-clause-some c =
    let whole = c.is_whole_type.ensures c.if-not-is_whole_type.false in (
      whole.0,
      c.in_ok-ty.ensures.cases.0 ∙ ap (λ x. x ++ c.in_ok-ty.rest.now) whole.1,
      whole.2,
      whole.3,
      search rules,
      search rules,
    )
