use Rattle.std.proofs.Common.{refl}
use Rattle.std.specs.List.{flat_map}
use Rattle.wc_print.specs.Standard.Layout.{memory_items}
use Rattle.wc_print.proofs.Writing.Going.{each-less, each-none}
use Rattle.wc_print.proofs.definitions.put_memories.Goals as goal

pub loop-limits-preserved : goal.loop-limits-preserved
loop-limits-preserved g c =
    each-less (flat_map memory_items) memory_items refl (λ x xs.
    refl) c.args.memories.now c.loop-limits.limits-index _ _ refl
    c.loop-limits-test.true c.put_memory.ensures c.loop-limits.invariant

pub returns : goal.returns
returns g c =
    each-none (flat_map memory_items) memory_items refl (λ x xs. refl) c.args.memories.now c.loop-limits.limits-index
    c.loop-limits-test.false c.loop-limits.invariant
