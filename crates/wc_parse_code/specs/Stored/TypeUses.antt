-- How the code stores type uses (Core 1.0, 6.6.3).
use Rattle.std.specs.Prelude.{ℕ, suc, List, [], ◌∷◌, ◌++◌, map, Option, Some, None, option_map}
use Rattle.wc_surface.specs.declared.id.Index.{Index as StoredIndex}
use Rattle.wc_surface.specs.declared.id.Index.TheVariants as stored
use Rattle.wc_surface.specs.declared.type_use.User.{User}
use Rattle.wc_surface.specs.declared.type_use.ParamName.{ParamName}
use Rattle.wc_surface.specs.declared.type_use.TypeUse.{TypeUse as StoredUse}
use Rattle.wc_surface.specs.Standard.Identifiers.{Identifier}
use Rattle.wc_surface.specs.Standard.Keys.{func_type}
use Rattle.wc_surface.specs.Standard.Written.Indices.{Index, number, named}
use Rattle.wc_surface.specs.Standard.Written.TypeUses.{Param, TypeUse}

-- an index
abbrev pub index_as : Index → StoredIndex
index_as (number token n) = stored.Number token n
index_as (named i) = stored.Named i

-- the identifier of the parameter of this place, where it has one
abbrev pub name_at : ℕ → Option Identifier → List ParamName
name_at place None = []
name_at place (Some i) = record { place = place; id = i } ∷ []

-- the identifiers of parameters, of which the first has this place, each with that of its parameter
abbrev pub names_from : ℕ → List Param → List ParamName
names_from place [] = []
names_from place (p ∷ ps) = name_at place p.id ++ names_from (suc place) ps

-- the type use of this user, whose word has this number
abbrev pub use_as : User → ℕ → TypeUse → StoredUse
use_as user token u = record {
  user = user;
  token = token;
  index = option_map index_as u.index;
  signature = func_type (map (λ p. p.ty) u.signature.params) u.signature.results;
  names = names_from 0 u.signature.params;
}
