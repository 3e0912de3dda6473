use Rattle.wc_parse.proofs.Tokens.Seen.{closed-bare}
use Rattle.wc_parse.proofs.externals.closes_at_once.Goals as goal

pub returns-clause-found : goal.returns-clause-found
returns-clause-found c =
    closed-bare c.args.ahead.now c.next_closed.new.self c.next_closed.result c.next_closed.ensures.read
