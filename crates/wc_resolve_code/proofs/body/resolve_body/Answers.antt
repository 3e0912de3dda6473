use Rattle.std.proofs.Common.{arith}
use Rattle.wc_surface.specs.declared.code.TextEntry.TheVariants.{Plain, Begin, Else, End}
use Rattle.wc_resolve_code.proofs.Walking.{inside-starts, inside-plain, inside-begin, inside-else, inside-close}
use Rattle.wc_resolve_code.proofs.Shapes.{room-begin, comes-else, comes-close}
use Rattle.wc_resolve_code.proofs.Walking.{next-entry, none-left}
use Rattle.wc_resolve_code.proofs.Walking.{inside-ends, built-whole, noted-all}
use Rattle.wc_resolve_code.proofs.body.resolve_body.Goals as goal
use Rattle.wc_resolve_code.proofs.body.resolve_body.Goals.{in-Plain+in_ok-put_plain-in-Plain}
use Rattle.wc_resolve_code.proofs.body.resolve_body.Goals.{in-Begin+in_ok-put_head-in-Begin, in-Else+in_ok-put-in-Else}
use Rattle.wc_resolve_code.proofs.body.resolve_body.Goals.{in-End+in_ok-put-in-End}

pub loop-entry-init : goal.loop-entry-init
loop-entry-init c = rw c.in_ok-builder.ensures (inside-starts c.args.around.now c.args.body.now c.args.noted.now.first _
    c.new-labels.result (rw c.code.ensures at c.entries-entries.ensures.marks)
    (rw c.code.ensures at c.entries-entries.ensures.within)
    c.new-labels.ensures.labels c.new-labels.ensures.depth)

pub put_plain-requires : goal.put_plain-requires
put_plain-requires c = omega (arith, c.loop-entry.invariant.depth, c.loop-entry.invariant.shallow)

pub put_head-requires-clause-open : goal.put_head-requires-clause-open
put_head-requires-clause-open c = omega (arith, c.loop-entry.invariant.depth, c.loop-entry.invariant.shallow)

pub put_head-requires-clause-room : goal.put_head-requires-clause-room
put_head-requires-clause-room c =
    let next = next-entry c.entries-entries.result.now c.loop-entry.entry-index _
    (Begin c.in-Begin.kind c.in-Begin.head) c.loop-entry-test.true c.in-Begin.is in
    room-begin _ _ c.loop-entry.builder c.in-Begin.kind c.in-Begin.head (rw next at c.loop-entry.invariant.shaped)

pub put-requires-clause-comes : goal.put-requires-clause-comes
put-requires-clause-comes c =
    let next = next-entry c.entries-entries.result.now c.loop-entry.entry-index _ Else c.loop-entry-test.true
    c.in-Else.is in
    comes-else _ _ c.loop-entry.builder (rw next at c.loop-entry.invariant.shaped)

pub put-requires-in-End-clause-comes : goal.put-requires-in-End-clause-comes
put-requires-in-End-clause-comes c =
    let next = next-entry c.entries-entries.result.now c.loop-entry.entry-index _ End c.loop-entry-test.true
    c.in-End.is in
    comes-close _ _ c.loop-entry.builder (rw next at c.loop-entry.invariant.shaped)

pub loop-entry-preserved : goal.loop-entry-preserved
loop-entry-preserved c =
    let inside = c.loop-entry.invariant in
    let next = next-entry c.entries-entries.result.now c.loop-entry.entry-index in
    elim c.match-entry.branch [
      | in-Plain+in_ok-put_plain-in-Plain v ↦
          rw (v.noted-is, v.labels-is, v.builder-is)
          (inside-plain _ _ _ _ _ _ _ v.in-Plain.instr _ _
          (rw (next _ (Plain v.in-Plain.instr) c.loop-entry-test.true v.in-Plain.is) at inside)
          v.in_ok-put_plain-in-Plain.ensures.around
          v.in_ok-put_plain-in-Plain.ensures.built v.in_ok-put_plain-in-Plain.ensures.noted)
      | in-Begin+in_ok-put_head-in-Begin v ↦
          let told = v.in_ok-put_head-in-Begin.ensures in
          rw (v.noted-is, v.labels-is, v.builder-is)
          (inside-begin _ _ _ _ _ _ _ v.in-Begin.kind v.in-Begin.head _ _ _
          (rw (next _ (Begin v.in-Begin.kind v.in-Begin.head) c.loop-entry-test.true v.in-Begin.is) at inside)
          told.around told.built told.labels told.depth told.noted)
      | in-Else+in_ok-put-in-Else v ↦
          rw (v.noted-is, v.labels-is, v.builder-is, v.in_ok-put-in-Else.ensures)
          (inside-else _ _ _ _ _ _ _ (rw (next _ Else c.loop-entry-test.true v.in-Else.is) at inside))
      | in-End+in_ok-put-in-End v ↦
          rw (v.noted-is, v.labels-is, v.builder-is, v.in_ok-put-in-End.ensures)
          (inside-close _ _ _ _ _ _ _ _ (rw (next _ End c.loop-entry-test.true v.in-End.is) at inside)
          v.leave.ensures.labels v.leave.ensures.depth)
    ]

pub unreachable-requires : goal.unreachable-requires
unreachable-requires c =
    let past = none-left c.entries-entries.result.now c.loop-entry.entry-index c.loop-entry-test.false in
    let closed = inside-ends _ _ _ _ _ c.loop-entry.builder (rw past at c.loop-entry.invariant) in
    let opened = c.in-Err.ensures.err.1 in cc

pub returns-clause-resolved : goal.returns-clause-resolved
returns-clause-resolved c =
    let past = none-left c.entries-entries.result.now c.loop-entry.entry-index c.loop-entry-test.false in
    built-whole _ _ _ _ _ c.loop-entry.builder _ (rw past at c.loop-entry.invariant) c.in-Ok.ensures.ok

pub returns-clause-noted : goal.returns-clause-noted
returns-clause-noted c =
    let past = none-left c.entries-entries.result.now c.loop-entry.entry-index c.loop-entry-test.false in
    noted-all _ _ _ _ _ c.loop-entry.builder (rw past at c.loop-entry.invariant)
