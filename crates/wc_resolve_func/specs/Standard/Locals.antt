-- The local index space of a function (Core 1.0, 6.6.5): its parameters, and behind them its declared locals.
use Rattle.std.specs.Prelude.{ℕ, zero, suc, ◌==◌, List, [], ◌∷◌, ◌++◌, map, length, Option, Some, None}
use Rattle.std.specs.Prelude.{slice_index_or, if◌then◌else◌}
use Rattle.wc_surface.specs.Standard.Keys.{key_of}
use Rattle.wc_surface.specs.Standard.Identifiers.{Identifier}
use Rattle.wc_surface.specs.declared.type_use.ParamName.{ParamName}
use Rattle.wc_surface.specs.declared.type_use.TypeUse.{TypeUse}
use Rattle.wc_surface.specs.declared.local.Local.{Local}
use Rattle.wc_surface.specs.declared.field.Field.{Field}
use Rattle.wc_declare.specs.declared.kind.SpaceKind.TheVariants as kind
use Rattle.wc_declare.specs.Standard.Spaces.{space, texts}
use Rattle.wc_declare.specs.Standard.Inner.{local_ids}
use Rattle.wc_declare.specs.Standard.Types.{types_of}
use Rattle.wc_declare.specs.Standard.Uses.{use_index}

-- the index of the type that a use is of, in the text of these fields (6.6.3)
abbrev pub type_index : List Field → TypeUse → ℕ
type_index fs u = use_index (texts (space kind.Type fs)) (map key_of (types_of fs)) u

-- how many parameters each type of a text has
abbrev pub param_counts : List Field → List ℕ
param_counts fs = map (λ t. length t.params) (types_of fs)

-- how many parameters a function has: as many as its type, whether they are written once more or not (6.6.3)
abbrev pub param_count : List Field → TypeUse → ℕ
param_count fs u = slice_index_or (param_counts fs) (type_index fs u) 0

-- the identifier of the parameter of this place, if the next that is written is its
abbrev pub id_at : ℕ → List ParamName → Option Identifier
id_at place [] = None
id_at place (n ∷ ns) = if n.place == place then Some n.id else None

-- the identifiers that are written behind that parameter
abbrev pub behind : ℕ → List ParamName → List ParamName
behind place [] = []
behind place (n ∷ ns) = if n.place == place then ns else n ∷ ns

-- so many parameters from this place on, each with its identifier or with none
abbrev pub params_from : ℕ → ℕ → List ParamName → List (Option Identifier)
params_from place zero names = []
params_from place (suc count) names = id_at place names ∷ params_from (suc place) count (behind place names)

-- parameters, and behind them declared locals; where no parameter is written behind the index of a type, none has an
-- identifier
abbrev pub local_space : List Field → TypeUse → List Local → List (Option Identifier)
local_space fs u locals = params_from 0 (param_count fs u) u.names ++ local_ids locals
