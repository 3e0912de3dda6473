use Rattle.std.proofs.Common.{sym}
use Rattle.wc_ast.proofs.Rows.FuncLemmas.{codes-back}
use Rattle.wc_ast.proofs.funcs.Funcs.codes.Goals as goal

pub returns : goal.returns
returns c = rw (← c.self.view_is) (sym (codes-back c.self.inside.types.items c.self.inside.codes c.self.invariant))
