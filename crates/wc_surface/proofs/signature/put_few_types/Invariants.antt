use Rattle.std.proofs.Common.{◌≡◌, ◌++◌, take}
use Rattle.wc_surface.specs.Standard.Keys.{type_bytes}
use Rattle.wc_surface.proofs.signature.put_few_types.Given as goal

abbrev pub invariant-loop-value_type : goal.invariant-loop-value_type
invariant-loop-value_type l =
    l.bytes ≡ l.initial.bytes ++ type_bytes (take l.value_type-index l.types)
