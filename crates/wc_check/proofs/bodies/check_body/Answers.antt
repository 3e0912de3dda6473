use Rattle.std.proofs.Common.{sym, ap}
use Rattle.wc_body.specs.Standard.Needed.{needs_of}
use Rattle.wc_check.specs.Judging.Verdicts.{verdict}
use Rattle.wc_check.proofs.Walks.EnoughLemmas.{enough-breaks-none}
use Rattle.wc_check.proofs.Walks.CommonLemmas.{enough-by}
use Rattle.wc_check.proofs.bodies.check_body.Goals as goal

pub returns-then-has_own : goal.returns-then-has_own
returns-then-has_own c =
    let body = c.args.body.now in
    let own = rw c.own_needs-own.ensures at (c.has_own.ensures c.if-has_own.true) in
    let enough =
    enough-by c.args.context.now c.args.known c.args.locals (needs_of body) c.if-known.true c.requires.known own in
    ap verdict (sym (enough-breaks-none c.args.context.now c.args.locals c.args.func body enough))
