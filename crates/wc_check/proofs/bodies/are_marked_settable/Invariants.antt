use Rattle.std.proofs.Common.{◌↔◌, drop}
use Rattle.wc_check.specs.Judging.Enough.{AreMarkedSettable}
use Rattle.wc_check.proofs.bodies.are_marked_settable.Given as goal

abbrev pub invariant-loop-global : goal.invariant-loop-global
invariant-loop-global l = AreMarkedSettable (drop l.global-index l.globals) l.left ↔ AreMarkedSettable l.globals l.bits
