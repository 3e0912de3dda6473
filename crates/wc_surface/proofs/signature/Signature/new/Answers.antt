use Rattle.wc_surface.specs.Standard.Keys.{func_type}
use Rattle.wc_surface.proofs.KeyLemmas.{key-is, key-back}
use Rattle.wc_surface.proofs.signature.Signature.new.Goals as goal

pub invariant_of-result : goal.invariant_of-result
invariant_of-result c =
    rw c.in_ok-key_bytes.ensures (key-is (func_type c.args.params.now c.args.results.now))

pub returns : goal.returns
returns c =
    rw c.in_ok-key_bytes.ensures (key-back (func_type c.args.params.now c.args.results.now))
