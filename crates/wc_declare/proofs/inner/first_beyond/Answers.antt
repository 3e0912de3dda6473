use Rattle.std.proofs.Common.{refl}
use Rattle.wc_surface.specs.Standard.WrittenLocals.{written_out}
use Rattle.wc_declare.specs.Standard.Inner.{token_beyond}
use Rattle.wc_declare.proofs.Beyond.{found-beyond, beyond-next}
use Rattle.wc_declare.proofs.inner.first_beyond.Goals as goal

pub returns-then-group-room : goal.returns-then-group-room
returns-then-group-room c =
    found-beyond c.args.groups.now c.loop-group.group-index c.group-item.result c.loop-group.room
    (token_beyond (written_out c.args.groups.now))
    _ c.loop-group-test.true c.group-item.is c.if-group-room.true refl c.loop-group.invariant

pub loop-group-preserved : goal.loop-group-preserved
loop-group-preserved c =
    beyond-next c.args.groups.now c.loop-group.group-index c.group-item.result c.loop-group.room
    (token_beyond (written_out c.args.groups.now))
    c.loop-group-test.true c.group-item.is c.if-group-room.false c.loop-group.invariant
