use Rattle.std.proofs.Common.{◌≡◌, List, map, take}
use Rattle.wc_surface.specs.declared.field.Field.{Field}
use Rattle.wc_declare.specs.Kept.Declaring.{IsDeclared}
use Rattle.wc_resolve_func.specs.Standard.Locals.{type_index}
use Rattle.wc_resolve_func.proofs.uses.type_indices.Given as goal

abbrev pub invariant-loop-used : goal.invariant-loop-used
invariant-loop-used l = (fs : List Field) → IsDeclared fs l.declared
    → l.indices.items ≡ map (type_index fs) (take l.used-index l.uses)
