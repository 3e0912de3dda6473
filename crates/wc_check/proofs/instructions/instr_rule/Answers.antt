use Rattle.std.proofs.Common.{◌≡◌, ◌||◌, arith, refl}
use Rattle.std.specs.Prelude.{nat_lt}
use Rattle.std.specs.List.{list_any}
use Rattle.wc_check.proofs.instructions.instr_rule.Goals as goal
use Rattle.wc_check.proofs.instructions.instr_rule.Goals.{then-any_above, else-any_above}

pub returns-after-any_above : goal.returns-after-any_above
returns-after-any_above c =
    let found = c.any_above.ensures in
    let is : c.if-any_above.is_above
    ≡ (list_any (λ n. nat_lt c.args.enclosing n) c.in-BrTable.labels || nat_lt c.args.enclosing c.in-BrTable.default)
    = elim c.if-any_above.branch [ then-any_above w ↦ grind arith | else-any_above w ↦ grind arith ] in
    rw (c.broken_if-in-BrTable.ensures, c.in-BrTable.is, is) refl
