use Rattle.std.proofs.Common.{◌<◌, ◌≤◌, ◌-◌, ◌*◌, ◌^◌, ℕ, ℤ, [], arith}
use Rattle.std.proofs.Math.Pow.{pow_mono}
use Rattle.wc_leb128.specs.Standard.Integers.{S}
use Rattle.wc_leb128.proofs.Laws.SignedLaws.{begins-more, continues}
use Rattle.wc_leb128.proofs.Reading.Push.{sum_fits, push_bad, push_more, state_more}
use Rattle.wc_leb128.proofs.Reading.SignedPush.{push_ended}
use Rattle.wc_leb128.proofs.signed.Signed.push.Goals as goal

below_power : (b r : ℕ) → b < 128 → 7 ≤ r → b < 2 ^ r
below_power b r lt h = let p : 2 ^ 7 ≤ 2 ^ r = pow_mono h in omega arith

pub returns-then-b-lt128 : goal.returns-then-b-lt128
returns-then-b-lt128 g c = rw (← c.self.view_is)
    (push_ended g.row.N c.self.inside.count c.self.inside.value c.args.b c.self.inside.unfinished
    (record {
      unfinished = c.if-not-self.false;
      state = c.self.invariant;
      fits = omega arith;
    }) c.if-b-lt128.true c.ended.result c.ended.ensures)

pub returns-then-room-le7 : goal.returns-then-room-le7
returns-then-room-le7 g c = rw (← c.self.view_is)
    (push_bad ℤ S continues g.row.N c.self.inside.count c.self.inside.value c.args.b c.self.inside.unfinished
    (record { unfinished = c.if-not-self.false; state = c.self.invariant; fits = omega arith })
    (λ h. let more = begins-more (g.row.N - 7 * c.self.inside.count) c.args.b [] c.if-b-lt128.false h in omega arith))

pub overflow_add-self : goal.overflow_add-self
overflow_add-self g c =
    let fits : c.args.b - 128 < 2 ^ (g.row.N - 7 * c.self.inside.count) = below_power (c.args.b - 128)
    (g.row.N - 7 * c.self.inside.count) (omega arith) (omega arith) in
    let r = sum_fits g.row.N c.self.inside.count c.self.inside.value c.args.b c.self.inside.unfinished
    (record { unfinished = c.if-not-self.false; state = c.self.invariant; fits = omega arith }) (c.args.b - 128) fits in
    omega arith

pub invariant_of-self-2 : goal.invariant_of-self-2
invariant_of-self-2 g c =
    state_more g.row.N c.self.inside.count c.self.inside.value c.args.b c.self.inside.unfinished
    (record {
      unfinished = c.if-not-self.false;
      state = c.self.invariant;
      fits = omega arith;
    }) c.if-b-lt128.false c.if-room-le7.false

pub returns : goal.returns
returns g c = rw (← c.self.view_is)
    (push_more ℤ S continues g.row.N c.self.inside.count c.self.inside.value c.args.b c.self.inside.unfinished
    (record {
      unfinished = c.if-not-self.false;
      state = c.self.invariant;
      fits = omega arith;
    }) c.if-b-lt128.false c.if-room-le7.false)
