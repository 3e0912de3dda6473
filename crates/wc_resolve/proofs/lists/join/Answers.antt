use Rattle.std.proofs.Common.{refl}
use Rattle.wc_declare.proofs.Joining.{told-apart}
use Rattle.wc_resolve.proofs.lists.join.Goals as goal

pub returns-in-None : goal.returns-in-None
returns-in-None c = λ fs e.
    told-apart c.args.noted.now.first c.args.more.first c.args.noted.now.first fs e (rw c.in-None.is refl)

pub returns-in-Some : goal.returns-in-Some
returns-in-Some c = λ fs e.
    told-apart c.args.noted.now.first c.args.more.first _ fs e (rw c.in-Some.is c.note.ensures)
