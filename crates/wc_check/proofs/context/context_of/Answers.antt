use Rattle.std.proofs.Common.{arith}
use Rattle.wc_check.proofs.Lists.SpaceLemmas.{few_funcs, few_tables, few_mems}
use Rattle.wc_check.proofs.context.context_of.Goals as goal

pub func_count-requires : goal.func_count-requires
func_count-requires c = omega (arith, few_funcs c.args.«module».now.imports, c.in_ok-funcs.ensures.funcs)

pub limits_count-requires : goal.limits_count-requires
limits_count-requires c = omega (arith, few_tables c.args.«module».now.imports, c.in_ok-funcs.ensures.tables)

pub limits_count-requires-2 : goal.limits_count-requires-2
limits_count-requires-2 c = omega (arith, few_mems c.args.«module».now.imports, c.in_ok-funcs.ensures.mems)
