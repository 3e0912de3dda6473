use Rattle.std.proofs.Common.{◌≡◌, ◌+◌, ◌/◌, ◌%◌, ◌∙◌, arith}
use Rattle.wc_leb128.specs.Writing.Bytes.{unsigned_bytes}
use Rattle.wc_leb128.proofs.Writing.UnsignedShortest.{unsigned_bytes-low, unsigned_bytes-high, unsigned_bytes-shortest}
use Rattle.wc_leb128.proofs.Writing.Lengths.{length-unsigned_bytes-some, length-unsigned_bytes-u64}
use Rattle.wc_leb128.proofs.Writing.Written.{with_one, with_last, room_left}
use Rattle.wc_leb128.proofs.shortest.shortest_u.Goals as goal

pub push-requires : goal.push-requires
push-requires c =
    room_left c.loop-rest.leb (unsigned_bytes c.loop-rest.rest) (unsigned_bytes c.args.n) 10 c.loop-rest.invariant
    (length-unsigned_bytes-some c.loop-rest.rest) (length-unsigned_bytes-u64 c.args.n (omega arith))

pub loop-rest-preserved : goal.loop-rest-preserved
loop-rest-preserved c =
    rw c.push.ensures
    (with_one c.loop-rest.leb (unsigned_bytes (c.loop-rest.rest / 128)) (unsigned_bytes c.args.n)
    (unsigned_bytes c.loop-rest.rest)
    (128 + c.loop-rest.rest % 128) (unsigned_bytes-high c.loop-rest.rest c.loop-rest-test.true) c.loop-rest.invariant)

pub push-requires-2 : goal.push-requires-2
push-requires-2 c =
    room_left c.loop-rest.leb (unsigned_bytes c.loop-rest.rest) (unsigned_bytes c.args.n) 10 c.loop-rest.invariant
    (length-unsigned_bytes-some c.loop-rest.rest) (length-unsigned_bytes-u64 c.args.n (omega arith))

written : (c : goal.After-push-2) → c.push-2.new.self ≡ unsigned_bytes c.args.n
written c =
    c.push-2.ensures
    ∙ with_last c.loop-rest.leb (unsigned_bytes c.args.n) (unsigned_bytes c.loop-rest.rest) c.loop-rest.rest
    (unsigned_bytes-low c.loop-rest.rest c.loop-rest-test.false) c.loop-rest.invariant

pub returns-clause-bytes : goal.returns-clause-bytes
returns-clause-bytes c = written c

pub returns-clause-shortest : goal.returns-clause-shortest
returns-clause-shortest c = rw (written c) (unsigned_bytes-shortest c.args.n)
