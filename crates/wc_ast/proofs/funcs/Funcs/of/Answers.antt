use Rattle.wc_ast.proofs.Rows.FuncLemmas.{types-back, codes-back}
use Rattle.wc_ast.proofs.funcs.Funcs.of.Goals as goal

pub returns-clause-types : goal.returns-clause-types
returns-clause-types c = rw c.into_vec.ensures (types-back c.args.types c.args.codes c.requires)

pub returns-clause-codes : goal.returns-clause-codes
returns-clause-codes c = rw c.into_vec.ensures (codes-back c.args.types c.args.codes c.requires)
