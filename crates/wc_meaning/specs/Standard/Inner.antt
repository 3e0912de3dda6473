-- Identifiers inside a function: parameters and declared locals stand in one index space (Core 1.0, 6.6.5). How many
-- locals may be declared is a limit of our own.
use Rattle.std.specs.Prelude.{List, [], ◌++◌, map, Option, Some, None, slice_get}
use Rattle.std.specs.List.{flat_map}
use Rattle.wc_ast.specs.Standard.LocalGroups.{locals_limit}
use Rattle.wc_resolve_code.specs.declared.why.NameWhy.TheVariants.{TooManyLocals}
use Rattle.wc_surface.specs.Standard.Written.TypeUses.{Param}
use Rattle.wc_surface.specs.Standard.Written.Fields.{Local, Function, Field, func_field}
use Rattle.wc_meaning.specs.Standard.Contexts.{Faults, fault}
use Rattle.wc_meaning.specs.Standard.Spaces.{repeated}
use Rattle.wc_meaning.specs.Standard.Gathered.{own_uses}

-- the parameters that are written in a function, or in an import of one
abbrev pub params_of : Field → List Param
params_of f = flat_map (λ u. u.ty.signature.params) (own_uses f)

-- the locals that a function declares
abbrev pub locals_of : Field → List Local
locals_of (func_field token d (Function.code u locals body)) = locals
locals_of _ = []

-- the first local beyond the limit, where there is one: at the token of its type
abbrev pub beyond : Option Local → Faults
beyond None = []
beyond (Some l) = fault l.token TooManyLocals

-- what is wrong with the parameters and the locals of a field
abbrev pub inner_faults : Field → Faults
inner_faults f = repeated (map (λ p. p.id) (params_of f) ++ map (λ l. l.id) (locals_of f))
    ++ beyond (slice_get (locals_of f) locals_limit)
