use Rattle.std.proofs.Common.{◌≤◌, length}
use Rattle.std.specs.List.{AllByRecursion}
use Rattle.wc_ast.specs.declared.func.Func.{Func}
use Rattle.wc_ast.specs.Standard.LocalGroups.{locals_limit}
use Rattle.wc_readback.proofs.names.few_locals.module_has_few_locals.Given as goal

abbrev pub invariant-loop-func : goal.invariant-loop-func
invariant-loop-func l =
    AllByRecursion (λ (f : Func). length f.locals ≤ locals_limit) l.left
    → AllByRecursion (λ (f : Func). length f.locals ≤ locals_limit) l.initial.left

abbrev pub decreases-loop-func : goal.decreases-loop-func
decreases-loop-func l = length l.left
