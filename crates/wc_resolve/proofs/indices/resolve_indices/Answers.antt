use Rattle.std.proofs.Common.{ℕ, List, [], ◌∷◌, ◌++◌, ap, ◌∙◌}
use Rattle.wc_declare.specs.Standard.Uses.{named_index}
use Rattle.wc_declare.proofs.Faults.{faults-next}
use Rattle.wc_resolve.specs.Standard.Indices.{unknown_index}
use Rattle.wc_resolve.proofs.Rows.{map-more}
use Rattle.wc_resolve.proofs.indices.resolve_indices.Goals as goal

pub loop-index-preserved : goal.loop-index-preserved
loop-index-preserved c = record {
  value = λ ds w. map-more (named_index ds) c.args.indices.now c.loop-index.index-index c.index-item.result
      c.loop-index.found.items _ _ c.loop-index-test.true c.index-item.is
      (c.in_ok-push.ensures.items ∙ ap (λ (n : ℕ). c.loop-index.found.items ++ n
      ∷ []) (c.resolve_index.ensures.value ds w))
      (c.loop-index.invariant.value ds w);
  noted = λ ds w. faults-next (unknown_index ds) c.args.indices.now c.loop-index.index-index c.index-item.result
      c.loop-index.noted.first _ _ c.loop-index-test.true c.index-item.is (c.resolve_index.ensures.noted ds w)
      (c.loop-index.invariant.noted ds w);
}
