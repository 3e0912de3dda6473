use Rattle.std.specs.Option.{option_to_list}
use Rattle.wc_declare.specs.Standard.Types.{own_uses, inner_uses}
use Rattle.wc_declare.specs.Standard.Uses.{use_faults}
use Rattle.wc_declare.proofs.Faults.{faults-both}
use Rattle.wc_declare.proofs.judging.judge_field.Goals as goal

pub returns : goal.returns
returns c = λ ds ts a p.
    faults-both (use_faults ds ts) c.args.noted.now.first c.judge_own.new.noted.first _
    (option_to_list c.own_use.result) c.uses_inside.result.now
    (own_uses c.args.field.now) (inner_uses c.args.field.now) c.own_use.ensures c.uses_inside.ensures
    (c.judge_own.ensures ds ts a p) (c.judge_uses.ensures ds ts a p)
