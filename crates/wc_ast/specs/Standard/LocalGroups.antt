-- Groups of locals, and the locals that they stand for (Core 1.0, 5.5.13).
use Rattle.std.specs.Prelude.{ℕ, ◌≢◌, ◌<◌, List, [], ◌∷◌, ◌++◌, replicate}
use Rattle.wc_ops.specs.declared.val_type.ValType.{ValType}
use Rattle.wc_ast.specs.declared.locals.Group.{Group}

-- how many locals a function may declare
abbrev pub locals_limit : ℕ
locals_limit = 50000

-- the locals, one by one
abbrev pub written_out : List Group → List ValType
written_out [] = []
written_out (g ∷ gs) = replicate g.count g.value_type ++ written_out gs

-- the first group has another type, where there is one
abbrev pub BeginsOtherwise : ValType → List Group → Type 0
BeginsOtherwise t [] = Unit {0}
BeginsOtherwise t (g ∷ gs) = t ≢ g.value_type

-- no group is empty, and neighbours differ in type
abbrev pub IsGrouped : List Group → Type 0
IsGrouped [] = Unit {0}
IsGrouped (g ∷ gs) = (0 < g.count) × BeginsOtherwise g.value_type gs × IsGrouped gs
