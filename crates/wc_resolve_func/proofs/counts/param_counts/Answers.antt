use Rattle.std.proofs.Common.{map}
use Rattle.wc_surface.specs.Standard.Keys.{key_of}
use Rattle.wc_declare.specs.Standard.Types.{types_of}
use Rattle.wc_resolve_func.proofs.Counting.{all-counts}
use Rattle.wc_resolve_func.proofs.counts.param_counts.Goals as goal

pub returns : goal.returns
returns c = λ fs w.
    all-counts c.keys-keys.result.now (types_of fs) c.loop-key.key-index c.loop-key.counts.items c.loop-key-test.false
    c.loop-key.invariant
    (c.keys-keys.ensures (map key_of (types_of fs)) w.types)
