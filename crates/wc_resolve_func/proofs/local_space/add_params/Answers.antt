use Rattle.wc_resolve_func.proofs.Behind.{unnamed-params}
use Rattle.wc_resolve_func.proofs.local_space.add_params.Goals as goal

pub returns-then-is_empty-clause-space : goal.returns-then-is_empty-clause-space
returns-then-is_empty-clause-space c = λ ds w.
    unnamed-params c.args.count c.args.names.now c.add_unnamed_many.new.self ds c.if-is_empty.ensures
    (c.add_unnamed_many.ensures.space ds w)
