use Rattle.std.proofs.lemmas.Result.{err_from_is_err_and}
use Rattle.wc_body.specs.Standard.Nested.{nesting_limit}
use Rattle.wc_parse.proofs.Saying.Said.{said-count, said-dropped, said-kept, said-refused}
use Rattle.wc_parse.proofs.Tokens.StringTokens.{no-string-stands}
use Rattle.wc_parse.proofs.taking.take_any.Goals as goal

pub returns-in_err-role-clause-fault : goal.returns-in_err-role-clause-fault
returns-in_err-role-clause-fault c =
    let p = err_from_is_err_and c.from_residual.result c.from_residual.ensures.1 in
    rw (p.1, p.2)
    (λ ts rest w e o.
    said-refused w _ rest _ _ e o c.requires.symbol
    (c.in_err-role.ensures.refused nesting_limit w.kinds w.es w.read (said-count w _ rest e)))

pub returns-in_default-clause-said : goal.returns-in_default-clause-said
returns-in_default-clause-said c = λ ts rest w e.
    said-dropped w _ rest _ _ e c.requires.symbol
    (rw c.in_default.is at (c.in_ok-role.ensures.kept nesting_limit w.kinds w.es w.read (said-count w _ rest e)))

pub returns-clause-said : goal.returns-clause-said
returns-clause-said c = λ ts rest w e.
    said-kept w _ rest _ c.in-Some.role _ _ _ e c.requires.symbol
    (rw c.in-Some.is at (c.in_ok-role.ensures.kept nesting_limit w.kinds w.es w.read (said-count w _ rest e)))
    (no-string-stands _ _ c.requires.no_string) c.in_ok-take_kept.ensures
