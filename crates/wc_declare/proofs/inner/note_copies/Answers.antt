use Rattle.std.proofs.Common.{ℕ, List, Option, Some, [], ◌∷◌}
use Rattle.wc_declare.specs.Kept.Seen.{HaveNames}
use Rattle.wc_declare.proofs.Adding.{added}
use Rattle.wc_declare.proofs.Naming.{copies-next}
use Rattle.wc_declare.proofs.inner.note_copies.Goals as goal

pub loop-done-preserved : goal.loop-done-preserved
loop-done-preserved c = λ ds w.
    added (λ (x : List (Option (List ℕ))). HaveNames x c.loop-done.seen) (λ (x : List (Option (List ℕ))).
    HaveNames x c.note_id.new.seen) ds
    _ _ _ _ _ (Some c.args.id.now ∷ []) _
    (copies-next c.args.count c.loop-done._done c.args.id.now c.loop-done-test.true)
    (c.loop-done.invariant ds w) c.in_ok-note_id.ensures.names c.in_ok-note_id.ensures.noted
