use Rattle.std.proofs.Common.{rules, ◌<◌, ◌≤◌, ◌-◌, ◌*◌, ◌^◌, ℕ, [], ◌∷◌, inl, inr, arith}
use Rattle.std.proofs.Math.Pow.{pow_mono}
use Rattle.wc_leb128.specs.Standard.Integers.{U, Begins}
use Rattle.wc_leb128.proofs.Laws.UnsignedLaws.{begins-stands, continues}
use Rattle.wc_leb128.proofs.Reading.Push.{sum_fits, push_done, push_bad, push_more, state_more}
use Rattle.wc_leb128.proofs.unsigned.Unsigned.push.Goals as goal

below_power : (b r : ℕ) → b < 128 → 7 ≤ r → b < 2 ^ r
below_power b r lt h = let p : 2 ^ 7 ≤ 2 ^ r = pow_mono h in omega arith

no_last : (b r : ℕ) → b < 128 → (b < 2 ^ r → ⊥) → Begins (U r) (b ∷ []) → ⊥
no_last b r lt wide g =
    let s = begins-stands r b [] g in
    elim s.either [ inl t ↦ wide t.1 | inr t ↦ omega arith ]

none_longer : (b r : ℕ) → 128 ≤ b → r ≤ 7 → Begins (U r) (b ∷ []) → ⊥
none_longer b r le h g =
    let s = begins-stands r b [] g in
    elim s.either [ inl t ↦ omega arith | inr t ↦ omega arith ]

pub returns-then-not-fits : goal.returns-then-not-fits
returns-then-not-fits g c =
    let wide : c.args.b < 2 ^ (g.row.N - 7 * c.self.inside.count) → ⊥ = search rules in
    rw (← c.self.view_is)
    (push_bad ℕ U continues g.row.N c.self.inside.count c.self.inside.value c.args.b c.self.inside.unfinished
    (record { unfinished = c.if-not-self.false; state = c.self.invariant; fits = omega arith })
    (no_last c.args.b (g.row.N - 7 * c.self.inside.count) c.if-b-lt128.true wide))

pub overflow_add-result : goal.overflow_add-result
overflow_add-result g c =
    let fits : c.args.b < 2 ^ (g.row.N - 7 * c.self.inside.count) = search rules in
    let r = sum_fits g.row.N c.self.inside.count c.self.inside.value c.args.b c.self.inside.unfinished
    (record { unfinished = c.if-not-self.false; state = c.self.invariant; fits = omega arith }) c.args.b fits in
    omega arith

pub returns-then-b-lt128 : goal.returns-then-b-lt128
returns-then-b-lt128 g c =
    let fits : c.args.b < 2 ^ (g.row.N - 7 * c.self.inside.count) = search rules in
    rw (← c.self.view_is)
    (push_done g.row.N c.self.inside.count c.self.inside.value c.args.b c.self.inside.unfinished
    (record { unfinished = c.if-not-self.false; state = c.self.invariant; fits = omega arith }) c.if-b-lt128.true fits)

pub returns-then-room-le7 : goal.returns-then-room-le7
returns-then-room-le7 g c = rw (← c.self.view_is)
    (push_bad ℕ U continues g.row.N c.self.inside.count c.self.inside.value c.args.b c.self.inside.unfinished
    (record { unfinished = c.if-not-self.false; state = c.self.invariant; fits = omega arith })
    (none_longer c.args.b (g.row.N - 7 * c.self.inside.count) c.if-b-lt128.false c.if-room-le7.true))

pub overflow_add-self : goal.overflow_add-self
overflow_add-self g c =
    let fits : c.args.b - 128 < 2 ^ (g.row.N - 7 * c.self.inside.count) = below_power (c.args.b - 128)
    (g.row.N - 7 * c.self.inside.count) (omega arith) (omega arith) in
    let r = sum_fits g.row.N c.self.inside.count c.self.inside.value c.args.b c.self.inside.unfinished
    (record { unfinished = c.if-not-self.false; state = c.self.invariant; fits = omega arith }) (c.args.b - 128) fits in
    omega arith

pub invariant_of-self-2 : goal.invariant_of-self-2
invariant_of-self-2 g c =
    state_more g.row.N c.self.inside.count c.self.inside.value c.args.b c.self.inside.unfinished
    (record {
      unfinished = c.if-not-self.false;
      state = c.self.invariant;
      fits = omega arith;
    }) c.if-b-lt128.false c.if-room-le7.false

pub returns : goal.returns
returns g c = rw (← c.self.view_is)
    (push_more ℕ U continues g.row.N c.self.inside.count c.self.inside.value c.args.b c.self.inside.unfinished
    (record {
      unfinished = c.if-not-self.false;
      state = c.self.invariant;
      fits = omega arith;
    }) c.if-b-lt128.false c.if-room-le7.false)
