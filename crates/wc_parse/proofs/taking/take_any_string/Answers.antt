use Rattle.std.proofs.lemmas.Result.{err_from_is_err_and}
use Rattle.wc_body.specs.Standard.Nested.{nesting_limit}
use Rattle.wc_parse.proofs.Saying.Said.{said-count, said-dropped, said-kept, said-refused}
use Rattle.wc_parse.proofs.Tokens.StringTokens.{string-token, string-stands}
use Rattle.wc_parse.proofs.taking.take_any_string.Goals as goal

pub returns-in_err-role-clause-fault : goal.returns-in_err-role-clause-fault
returns-in_err-role-clause-fault c =
    let p = err_from_is_err_and c.from_residual-in_err-role.result c.from_residual-in_err-role.ensures.1 in
    let symbol = string-token _ _ _ c.requires.kind (c.symbol_of_string-string.ensures _ c.in_ok-value.ensures) in
    rw (p.1, p.2)
    (λ ts rest w e o.
    said-refused w _ rest _ _ e o symbol
    (c.in_err-role.ensures.refused nesting_limit w.kinds w.es w.read (said-count w _ rest e)))

pub returns-in_default-clause-said : goal.returns-in_default-clause-said
returns-in_default-clause-said c = λ ts rest w e.
    said-dropped w _ rest _ _ e (string-token _ _ _ c.requires.kind
    (c.symbol_of_string-string.ensures _ c.in_ok-value.ensures))
    (rw c.in_default.is at (c.in_ok-role.ensures.kept nesting_limit w.kinds w.es w.read (said-count w _ rest e)))

pub returns-clause-said : goal.returns-clause-said
returns-clause-said c = λ ts rest w e.
    said-kept w _ rest _ c.in-Some.role _ _ _ e
    (string-token _ _ _ c.requires.kind (c.symbol_of_string-string.ensures _ c.in_ok-value.ensures))
    (rw c.in-Some.is at (c.in_ok-role.ensures.kept nesting_limit w.kinds w.es w.read (said-count w _ rest e)))
    (string-stands _ _ _ c.requires.kind c.in_ok-value.ensures) c.in_ok-take.ensures
