use Rattle.wc_cli.proofs.Told.{ended-tells}
use Rattle.wc_cli.proofs.acting.act.Goals as goal

pub returns-in-None-clause-tells : goal.returns-in-None-clause-tells
returns-in-None-clause-tells g c =
    let e = c.act_on.ensures.carries_out in
    ended-tells g.W.Write.contents g.E.Write.contents _ _ _ _ _ _ _ e.0 _ _ _ e.1 e.3
