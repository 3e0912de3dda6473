use Rattle.wc_print.proofs.Writing.Going.{chain, none-behind, page-out}
use Rattle.wc_print.proofs.heads.put_locals_behind.Goals as goal

pub returns-clause-put : goal.returns-clause-put
returns-clause-put g c = chain (page-out c.put.ensures) (none-behind c.put_locals.ensures)
