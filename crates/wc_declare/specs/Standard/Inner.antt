-- Identifiers inside functions: parameters and declared locals stand in one index space (Core 1.0, 6.6.5). A function
-- declares at most as many locals as the limit allows.
use Rattle.std.specs.Prelude.{ℕ, List, [], ◌++◌, map, Option, Some, None, slice_get}
use Rattle.std.specs.Option.{option_map}
use Rattle.wc_resolve_code.specs.declared.why.NameWhy.{NameWhy}
use Rattle.wc_resolve_code.specs.declared.why.NameWhy.TheVariants.{TooManyLocals}
use Rattle.wc_spaces.specs.declared.noted.Fault.{Fault}
use Rattle.wc_ast.specs.Standard.LocalGroups.{locals_limit}
use Rattle.wc_surface.specs.Standard.Identifiers.{Identifier}
use Rattle.wc_surface.specs.declared.type_use.ParamName.{ParamName}
use Rattle.wc_surface.specs.declared.local.Local.{Local}
use Rattle.wc_surface.specs.declared.field.Field.{Field}
use Rattle.wc_surface.specs.declared.field.Field.TheVariants as field
use Rattle.wc_surface.specs.declared.field.ImportDesc.{ImportDesc}
use Rattle.wc_surface.specs.declared.field.ImportDesc.TheVariants as import
use Rattle.wc_surface.specs.declared.field.FuncDesc.{FuncDesc}
use Rattle.wc_surface.specs.declared.field.FuncDesc.TheVariants as func
use Rattle.wc_declare.specs.Standard.Spaces.{repeated}
use Rattle.wc_declare.specs.Standard.Order.{fault}

-- the identifiers of parameters
abbrev pub param_ids : List ParamName → List (Option Identifier)
param_ids names = map (λ n. Some n.id) names

-- what declared locals have for identifiers
abbrev pub local_ids : List Local → List (Option Identifier)
local_ids ls = map (λ l. l.id) ls

-- the parameters with identifiers of an import: none unless it is one of a function
abbrev pub import_names : ImportDesc → List ParamName
import_names (import.Func u) = u.names
import_names _ = []

-- the parameters with identifiers of a function, or of an import of one (6.6.4)
abbrev pub names_of : Field → List ParamName
names_of (field.Import f) = import_names f.desc
names_of (field.Func f) = f.ty.names
names_of _ = []

-- the locals that a function declares; an import of one declares none
abbrev pub desc_locals : FuncDesc → List Local
desc_locals (func.Import names) = []
desc_locals (func.Code locals body) = locals

-- the declared locals of a function
abbrev pub locals_of : Field → List Local
locals_of (field.Func f) = desc_locals f.desc
locals_of _ = []

-- the token of the type of the first local beyond the limit
abbrev pub token_beyond : List Local → Option ℕ
token_beyond ls = option_map (λ l. l.token) (slice_get ls locals_limit)

-- the fault of a local at this token beyond the limit, where there is one
abbrev pub too_many : Option ℕ → List (Fault NameWhy)
too_many None = []
too_many (Some token) = fault token TooManyLocals

-- what is wrong inside a field: parameters, and then declared locals
abbrev pub inner_faults : Field → List (Fault NameWhy)
inner_faults f = repeated (param_ids (names_of f) ++ local_ids (locals_of f))
    ++ too_many (token_beyond (locals_of f))
