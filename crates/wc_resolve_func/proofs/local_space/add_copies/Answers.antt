use Rattle.std.proofs.Common.{Some, [], ◌∷◌, arith}
use Rattle.wc_declare.proofs.Naming.{copies-next}
use Rattle.wc_resolve_func.proofs.Behind.{grown}
use Rattle.wc_resolve_func.proofs.local_space.add_copies.Goals as goal

pub loop-done-preserved : goal.loop-done-preserved
loop-done-preserved c = record {
  size = omega (arith, c.loop-done.invariant.size, c.in_ok-add_id.ensures.size);
  growing = λ ds w. grown c.loop-done.space c.add_id.new.space ds _ _ (Some c.args.id.now ∷ []) _
      (copies-next c.args.count c.loop-done._done c.args.id.now c.loop-done-test.true)
      (c.loop-done.invariant.growing ds w) c.in_ok-add_id.ensures.space;
}
