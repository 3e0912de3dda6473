use Rattle.wc_print.proofs.Writing.Going.{nothing, page-out}
use Rattle.wc_print.proofs.pages.turn.Goals as goal

pub returns-clause-same : goal.returns-clause-same
returns-clause-same g c = page-out c.put.ensures

pub returns-then-at-le-PAGE-clause-same : goal.returns-then-at-le-PAGE-clause-same
returns-then-at-le-PAGE-clause-same g c = nothing _
