use Rattle.std.proofs.Common.{◌∙◌, map}
use Rattle.wc_surface.specs.Standard.Keys.{key_of}
use Rattle.wc_declare.specs.Standard.Types.{types_of}
use Rattle.wc_declare.proofs.ReadBack.{all-back}
use Rattle.wc_declare.proofs.declared.Declared.func_types.Goals as goal

pub returns : goal.returns
returns c = λ fs w.
    c.from_vec.ensures
    ∙ all-back c.keys-key-items.result.now (types_of fs) c.loop-key.key-index
    c.loop-key.types.items c.loop-key-test.false c.loop-key.invariant
    (c.keys-key-items.ensures (map key_of (types_of fs)) w.types)
