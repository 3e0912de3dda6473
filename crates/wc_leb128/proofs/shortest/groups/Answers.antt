use Rattle.std.proofs.Common.{◌+◌, ◌/◌, ◌%◌}
use Rattle.wc_leb128.specs.Writing.Bytes.{signed_of, signed_bytes, group_of}
use Rattle.wc_leb128.proofs.Writing.SignedShortest.{signed_bytes-low, signed_bytes-high}
use Rattle.wc_leb128.proofs.Writing.SignedLengths.{length-signed_bytes-some, length-signed_bytes-ten}
use Rattle.wc_leb128.proofs.Writing.Written.{with_one, with_last, room_left}
use Rattle.wc_leb128.proofs.shortest.groups.Goals as goal

pub push-requires : goal.push-requires
push-requires c =
    room_left c.loop-rest.leb (signed_bytes (signed_of c.args.negative c.loop-rest.rest))
    (signed_bytes (signed_of c.args.negative c.args.bits)) 10
    c.loop-rest.invariant (length-signed_bytes-some (signed_of c.args.negative c.loop-rest.rest))
    (length-signed_bytes-ten c.args.negative c.args.bits c.requires)

pub loop-rest-preserved : goal.loop-rest-preserved
loop-rest-preserved c =
    rw (c.push.ensures, c.group.ensures)
    (with_one c.loop-rest.leb (signed_bytes (signed_of c.args.negative (c.loop-rest.rest / 128)))
    (signed_bytes (signed_of c.args.negative c.args.bits))
    (signed_bytes (signed_of c.args.negative c.loop-rest.rest))
    (128 + group_of c.args.negative (c.loop-rest.rest % 128))
    (signed_bytes-high c.args.negative c.loop-rest.rest c.loop-rest-test.true) c.loop-rest.invariant)

pub push-requires-2 : goal.push-requires-2
push-requires-2 c =
    room_left c.loop-rest.leb (signed_bytes (signed_of c.args.negative c.loop-rest.rest))
    (signed_bytes (signed_of c.args.negative c.args.bits)) 10
    c.loop-rest.invariant (length-signed_bytes-some (signed_of c.args.negative c.loop-rest.rest))
    (length-signed_bytes-ten c.args.negative c.args.bits c.requires)

pub returns : goal.returns
returns c =
    rw (c.push-2.ensures, c.group-2.ensures)
    (with_last c.loop-rest.leb (signed_bytes (signed_of c.args.negative c.args.bits))
    (signed_bytes (signed_of c.args.negative c.loop-rest.rest))
    (group_of c.args.negative c.loop-rest.rest)
    (signed_bytes-low c.args.negative c.loop-rest.rest c.loop-rest-test.false) c.loop-rest.invariant)
