use Rattle.std.proofs.Common.{arith}
use Rattle.wc_surface.specs.Standard.WrittenLocals.{locals_of}
use Rattle.wc_declare.specs.Standard.Inner.{local_ids}
use Rattle.wc_declare.proofs.Naming.{groups-next}
use Rattle.wc_resolve_func.proofs.Behind.{grown, split-length}
use Rattle.wc_resolve_func.proofs.local_space.add_locals.Goals as goal

pub add_group-requires : goal.add_group-requires
add_group-requires c = omega (
  arith,
  c.loop-group.invariant.few,
  split-length c.args.groups.now c.loop-group.group-index c.group-item.result c.loop-group-test.true c.group-item.is,
)

pub loop-group-preserved : goal.loop-group-preserved
loop-group-preserved c = record {
  few = omega (
    arith,
    c.loop-group.invariant.few,
    c.in_ok-add_group.ensures.size,
    split-length c.args.groups.now c.loop-group.group-index c.group-item.result c.loop-group-test.true c.group-item.is,
  );
  growing = λ ds w. grown c.loop-group.space c.add_group.new.space ds _ _ (local_ids (locals_of c.group-item.result)) _
      (groups-next c.args.groups.now c.loop-group.group-index c.group-item.result c.loop-group-test.true
      c.group-item.is)
      (c.loop-group.invariant.growing ds w) c.in_ok-add_group.ensures.space;
}
