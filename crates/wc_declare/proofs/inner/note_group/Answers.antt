use Rattle.wc_declare.proofs.Naming.{unnamed-seen, unnamed-fault, group-copies}
use Rattle.wc_declare.proofs.inner.note_group.Goals as goal

pub returns-in-None-clause-names : goal.returns-in-None-clause-names
returns-in-None-clause-names c = λ ds w. unnamed-seen ds c.args.group.now c.args.seen.now c.in-None.is w

pub returns-in-None-clause-noted : goal.returns-in-None-clause-noted
returns-in-None-clause-noted c = λ ds w. unnamed-fault ds c.args.group.now c.args.noted.now.first c.in-None.is

pub returns-in-Some-clause-names : goal.returns-in-Some-clause-names
returns-in-Some-clause-names c = λ ds w.
    rw (group-copies c.args.group.now c.in-Some.id c.in-Some.is) (c.note_copies.ensures.names ds w)

pub returns-in-Some-clause-noted : goal.returns-in-Some-clause-noted
returns-in-Some-clause-noted c = λ ds w.
    rw (group-copies c.args.group.now c.in-Some.id c.in-Some.is) (c.note_copies.ensures.noted ds w)
