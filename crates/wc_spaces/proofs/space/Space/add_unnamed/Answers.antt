use Rattle.std.proofs.Common.{refl}
use Rattle.wc_spaces.proofs.Declaring.{unnamed}
use Rattle.wc_spaces.proofs.space.Space.add_unnamed.Goals as goal

pub returns-clause-space : goal.returns-clause-space
returns-clause-space c = λ ds w. unnamed ds c.args.self.now _ w refl refl
