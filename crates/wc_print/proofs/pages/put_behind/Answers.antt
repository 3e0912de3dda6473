use Rattle.wc_print.proofs.Writing.Going.{chain, none-behind, page-out}
use Rattle.wc_print.proofs.pages.put_behind.Goals as goal

pub returns : goal.returns
returns g c = chain (page-out c.put.ensures) (none-behind c.put_entry.ensures)
