use Rattle.std.proofs.Common.{◌+◌, get_or, None, refl}
use Rattle.std.proofs.lemmas.Result.{err_from_is_err_and}
use Rattle.wc_ast.specs.declared.limits.Limits.{Limits}
use Rattle.wc_check.specs.Standard.SizeRules.{broken_table}
use Rattle.wc_check.proofs.Lists.VerdictLemmas.{each-fails, judged-fails}
use Rattle.wc_check.proofs.sizes.check_tables.Goals as goal

pub returns-in_err-judge : goal.returns-in_err-judge
returns-in_err-judge c =
    let p = err_from_is_err_and c.from_residual.result c.from_residual.ensures.1 in
    let d : Limits = record { min = 0; max = None } in
    rw (p.1, p.2)
    (each-fails broken_table (c.args.start + c.loop-place.place) c.loop-place.place c.args.tables.now
    (get_or c.args.tables.now c.loop-place.place d) d _ _
    c.loop-place-test.true refl c.loop-place.invariant
    (judged-fails _ _ _ _ c.in_err-judge.ensures c.table_rule.ensures))
