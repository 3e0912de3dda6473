use Rattle.std.proofs.Common.{ℕ, List, Option, Some, [], ◌∷◌}
use Rattle.wc_declare.specs.Kept.Seen.{HaveNames}
use Rattle.wc_declare.proofs.Adding.{added}
use Rattle.wc_declare.proofs.Naming.{params-next}
use Rattle.wc_declare.proofs.inner.note_params.Goals as goal

pub loop-name-preserved : goal.loop-name-preserved
loop-name-preserved c = λ ds w.
    added (λ (x : List (Option (List ℕ))). HaveNames x c.loop-name.seen) (λ (x : List (Option (List ℕ))).
    HaveNames x c.note_id.new.seen) ds
    _ _ _ _ _ (Some c.name-item.result.id ∷ []) _
    (params-next c.args.names.now c.loop-name.name-index c.name-item.result c.loop-name-test.true c.name-item.is)
    (c.loop-name.invariant ds w) c.in_ok-note_id.ensures.names c.in_ok-note_id.ensures.noted
