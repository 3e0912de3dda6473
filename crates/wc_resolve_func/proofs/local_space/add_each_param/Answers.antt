use Rattle.std.proofs.Common.{[], ◌∷◌, drop, arith}
use Rattle.wc_resolve_func.specs.Standard.Locals.{id_at}
use Rattle.wc_resolve_func.proofs.Behind.{grown, params-next}
use Rattle.wc_resolve_func.proofs.local_space.add_each_param.Goals as goal

pub loop-place-preserved : goal.loop-place-preserved
loop-place-preserved c = record {
  size = omega (arith, c.loop-place.invariant.size, c.in_ok-next.ensures.size);
  used = omega (arith, c.loop-place.invariant.used, c.in_ok-next.ensures.used);
  growing = λ ds w. grown c.loop-place.space c.add_param.new.space ds _ _
      (id_at c.loop-place.place (drop c.loop-place.next c.args.names.now) ∷ []) _
      (params-next c.loop-place.place c.args.count c.loop-place.next c.in_ok-next.next c.args.names.now
      c.loop-place-test.true
      c.in_ok-next.ensures.left)
      (c.loop-place.invariant.growing ds w) c.in_ok-next.ensures.space;
}
