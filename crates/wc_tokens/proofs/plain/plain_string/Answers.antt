use Rattle.std.proofs.lemmas.List.{take_rest}
use Rattle.wc_tokens.proofs.Escapes.PlainLaws.{begins-plain}
use Rattle.wc_tokens.proofs.plain.plain_string.Goals as goal

pub returns-in_ok-rest-in-34-clause-string : goal.returns-in_ok-rest-in-34-clause-string
returns-in_ok-rest-in-34-clause-string c =
    let front = c.in_ok-front.front in
    let run = c.plain_run-run in
    begins-plain _ front.rest.now _ _ front.first run.result c.in_ok-front.ensures.1.here_is c.in-34.is
    run.ensures.within run.ensures.plain (take_rest front.rest.now run.result) c.in_ok-rest-in-34.ensures
