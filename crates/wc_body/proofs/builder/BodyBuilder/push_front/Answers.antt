use Rattle.std.proofs.Common.{◌≡◌, ◌<◌, length, refl, arith, rules}
use Rattle.wc_body.proofs.Drafts.Runs.FrontRun.{fronted-none, fronted-usual, fronted-run, fronted-length, fronted-room}
use Rattle.wc_body.proofs.Drafts.Runs.FrontRun.{fronted-kept, fronted-added, run-shorter, usual-shorter}
use Rattle.wc_body.proofs.builder.BodyBuilder.push_front.Goals as goal

pub entries-init : goal.entries-init
entries-init c =
    (fronted-none _ _ _ _ _ (rw c.if-self.false at c.self.invariant) c.self.view_is, refl, c.if-self.false)

pub entries-smaller : goal.entries-smaller
entries-smaller c =
    let h = c.in-Some.ensures.some in
    let run = run-shorter _ c.entries.rest.now c.after_light-rest.result.now _ _ c.after_light-rest.ensures in
    let last : length c.in-Some.behind.now < length c.after_light-rest.result.now = usual-shorter _ _ _ _ _ _ h in
    let shorter : length c.in-Some.behind.now < length c.entries.rest.now = omega (arith, run, last) in
    shorter

pub entries-preserved : goal.entries-preserved
entries-preserved c =
    let i = c.entries.invariant in
    let open_ : c.len-in-entries.result ≡ length c.entries.self-inside.parts.items = search rules in
    let run = fronted-run _ _ _ _ _ _ _ _ i.0 (rw open_ at c.after_light-rest.ensures) in
    (fronted-usual _ _ _ _ _ _ _ _ _ run c.in-Some.ensures.some, i.1, i.2)

pub overflow_sub-count : goal.overflow_sub-count
overflow_sub-count c =
    let i = c.entries.invariant in
    let open_ : c.len-in-entries.result ≡ length c.entries.self-inside.parts.items = search rules in
    let run = fronted-run _ _ _ _ _ _ _ _ i.0 (rw open_ at c.after_light-rest.ensures) in
    omega (arith, fronted-length _ _ _ _ _ _ run)

pub append-requires : goal.append-requires
append-requires c =
    let i = c.entries.invariant in
    let open_ : c.len-in-entries.result ≡ length c.entries.self-inside.parts.items = search rules in
    let run = fronted-run _ _ _ _ _ _ _ _ i.0 (rw open_ at c.after_light-rest.ensures) in
    let room = fronted-room _ _ c.args.bytes.now c.min.result _ _ _ run in
    rw i.1 (omega (arith, room, c.min.ensures, c.capacity.ensures, c.len.ensures))

pub invariant_of-self : goal.invariant_of-self
invariant_of-self c =
    let i = c.entries.invariant in
    let open_ : c.len-in-entries.result ≡ length c.entries.self-inside.parts.items = search rules in
    let run = fronted-run _ _ _ _ _ _ _ _ i.0 (rw open_ at c.after_light-rest.ensures) in
    let none = c.in_default.ensures.none refl in
    rw (c.append.ensures, i.1, i.2, none.0, none.1) (fronted-kept _ _ c.args.bytes.now c.min.result _ _ _ run)

pub returns : goal.returns
returns c =
    let i = c.entries.invariant in
    let open_ : c.len-in-entries.result ≡ length c.entries.self-inside.parts.items = search rules in
    let run = fronted-run _ _ _ _ _ _ _ _ i.0 (rw open_ at c.after_light-rest.ensures) in
    rw (c.append.ensures, i.1) (fronted-added _ _ c.args.bytes.now c.min.result _ _ _ run)
