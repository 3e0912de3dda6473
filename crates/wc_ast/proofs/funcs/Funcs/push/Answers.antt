use Rattle.wc_ast.specs.Standard.Codes.{code}
use Rattle.wc_ast.proofs.Rows.FuncLemmas.{func-pushed}
use Rattle.wc_ast.proofs.funcs.Funcs.push.Goals as goal

pub returns-clause-ok : goal.returns-clause-ok
returns-clause-ok c =
    let f = c.args.func.now in
    rw (← c.self.view_is, c.push_reserved.ensures.items, c.in_ok-reserve.ensures.items, c.in_ok-push.ensures.ok)
    (func-pushed c.self.inside.types.items c.self.inside.codes f.ty (code f.locals f.body) c.self.invariant)
