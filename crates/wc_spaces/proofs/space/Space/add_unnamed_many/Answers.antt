use Rattle.std.proofs.Common.{refl}
use Rattle.wc_spaces.proofs.Declaring.{unnamed-many}
use Rattle.wc_spaces.proofs.space.Space.add_unnamed_many.Goals as goal

pub returns-clause-space : goal.returns-clause-space
returns-clause-space c = λ ds w. unnamed-many ds c.args.self.now _ c.args.count w refl refl
