use Rattle.std.proofs.Common.{arith}
use Rattle.wc_resolve_func.proofs.Behind.{types-room, types-more}
use Rattle.wc_resolve_func.proofs.local_types.local_types.Goals as goal

pub put-requires : goal.put-requires
put-requires c = omega (
  arith,
  c.requires,
  types-room c.args.groups.now c.loop-group.group-index c.group-item.result c.loop-group.types c.loop-group-test.true
      c.group-item.is
      c.loop-group.invariant,
)

pub loop-group-preserved : goal.loop-group-preserved
loop-group-preserved c =
    types-more c.args.groups.now c.loop-group.group-index c.group-item.result c.loop-group.types c.put.new.types _
    c.loop-group-test.true c.group-item.is c.in_ok-put.ensures c.loop-group.invariant
