use Rattle.wc_ops.proofs.Meanings.FloatNames.{known_name}
use Rattle.wc_ops.proofs.op.Op.of_name.Goals as goal

pub returns-in-Some : goal.returns-in-Some
returns-in-Some c = known_name c.args.word.now c.in-Some.op c.in-Some.ensures
