use Rattle.std.proofs.Common.{◌++◌, ℕ, List, Option, subst}
use Rattle.wc_spaces.specs.Kept.Spaces.{IsSpace}
use Rattle.wc_declare.proofs.Naming.{group-copies}
use Rattle.wc_resolve_func.proofs.Behind.{unnamed-group}
use Rattle.wc_resolve_func.proofs.local_space.add_group.Goals as goal

pub returns-in-None-clause-space : goal.returns-in-None-clause-space
returns-in-None-clause-space c = λ ds w.
    subst (λ (x : List (Option (List ℕ))). IsSpace (ds ++ x) c.add_unnamed_many.new.self)
    (unnamed-group c.args.group.now c.in-None.is) (c.add_unnamed_many.ensures.space ds w)

pub returns-in-Some-clause-space : goal.returns-in-Some-clause-space
returns-in-Some-clause-space c = λ ds w.
    rw (group-copies c.args.group.now c.in-Some.id c.in-Some.is) (c.add_copies.ensures.space ds w)
