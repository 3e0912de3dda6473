use Rattle.std.proofs.Common.{◌≡◌, take}
use Rattle.wc_ast.proofs.list.ListTryClone.try_clone.Given as goal

abbrev pub invariant-loop-item : goal.invariant-loop-item
invariant-loop-item g l = l.items.items ≡ take l.item-index l.item-items
