use Rattle.std.proofs.Common.{ℕ, List, Option}
use Rattle.wc_surface.specs.Standard.WrittenLocals.{locals_of}
use Rattle.wc_declare.specs.Standard.Inner.{local_ids}
use Rattle.wc_declare.specs.Kept.Seen.{HaveNames}
use Rattle.wc_declare.proofs.Adding.{added}
use Rattle.wc_declare.proofs.Naming.{groups-next}
use Rattle.wc_declare.proofs.inner.note_locals.Goals as goal

pub loop-group-preserved : goal.loop-group-preserved
loop-group-preserved c = λ ds w.
    added (λ (x : List (Option (List ℕ))). HaveNames x c.loop-group.seen)
    (λ (x : List (Option (List ℕ))). HaveNames x c.note_group.new.seen) ds
    _ _ _ _ _ (local_ids (locals_of c.group-item.result)) _
    (groups-next c.args.groups.now c.loop-group.group-index c.group-item.result c.loop-group-test.true c.group-item.is)
    (c.loop-group.invariant ds w) c.in_ok-note_group.ensures.names c.in_ok-note_group.ensures.noted
