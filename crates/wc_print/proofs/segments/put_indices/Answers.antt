use Rattle.std.proofs.Common.{[], ◌∷◌, refl}
use Rattle.wc_print.specs.Standard.Printed.{number, after}
use Rattle.wc_print.specs.Standard.Lines.{number_items}
use Rattle.wc_print.proofs.Writing.Going.{each-less, each-none}
use Rattle.wc_print.proofs.segments.put_indices.Goals as goal

pub loop-index-preserved : goal.loop-index-preserved
loop-index-preserved g c =
    each-less number_items (λ n. after (number n) ∷ []) refl (λ n ns.
    refl) c.args.indices.now c.loop-index.index-index _ _ refl
    c.loop-index-test.true c.put_number.ensures c.loop-index.invariant

pub returns : goal.returns
returns g c =
    each-none number_items (λ n. after (number n) ∷ []) refl (λ n ns. refl) c.args.indices.now c.loop-index.index-index
    c.loop-index-test.false c.loop-index.invariant
