use Rattle.std.proofs.Common.{ℕ, List, [], ◌∷◌, ◌++◌, ap, ◌∙◌}
use Rattle.wc_resolve.specs.Standard.Exports.{export}
use Rattle.wc_resolve.proofs.Rows.{map-more}
use Rattle.wc_resolve.proofs.exports.put_names.Goals as goal

pub loop-name-preserved : goal.loop-name-preserved
loop-name-preserved c =
    map-more (export c.args.kind c.args.index) c.args.names.now c.loop-name.name-index c.name-item.result
    c.loop-name.out _ _
    c.loop-name-test.true c.name-item.is
    (c.in_ok-push.ensures.ok
    ∙ ap (λ (x : List ℕ). c.loop-name.out ++ export c.args.kind c.args.index x ∷ []) c.as_str.ensures)
    c.loop-name.invariant
