-- Type uses (Core 1.0, 6.6.3), against the types of the whole text, and what is wrong with them. A type is told by its
-- key.
use Rattle.std.specs.Prelude.{ℕ, Bool, true, false, not, ◌&&◌, List, [], ◌∷◌, ◌++◌, Option, Some, None, slice_get}
use Rattle.std.specs.Prelude.{if◌then◌else◌}
use Rattle.std.specs.List.{flat_map}
use Rattle.std.specs.Option.{unwrap_or}
use Rattle.std.specs.Str.{bytes_eq}
use Rattle.wc_resolve_code.specs.declared.why.NameWhy.{NameWhy}
use Rattle.wc_resolve_code.specs.declared.why.NameWhy.TheVariants.{UnknownId, TypeDiffers, NoSuchType, NamedParam}
use Rattle.wc_resolve_code.specs.declared.why.NameWhy.TheVariants.{BlockParam}
use Rattle.wc_spaces.specs.declared.noted.Fault.{Fault}
use Rattle.wc_spaces.specs.Standard.Spaces.{place_of}
use Rattle.wc_spaces.specs.Standard.Types.{index_of}
use Rattle.wc_surface.specs.Standard.Keys.{key_of}
use Rattle.wc_surface.specs.declared.id.Index.{Index}
use Rattle.wc_surface.specs.declared.id.Index.TheVariants as index
use Rattle.wc_surface.specs.declared.type_use.User.{User}
use Rattle.wc_surface.specs.declared.type_use.User.TheVariants as user
use Rattle.wc_surface.specs.declared.type_use.ParamName.{ParamName}
use Rattle.wc_surface.specs.declared.type_use.TypeUse.{TypeUse}
use Rattle.wc_declare.specs.Standard.Order.{fault}

-- a value type is written in it
abbrev pub is_written : List ℕ → Bool
is_written [] = false
is_written (t ∷ ts) = true

-- behind the index of a type, another is written
abbrev pub differs : List ℕ → List ℕ → Bool
differs t written = is_written written && not (bytes_eq t written)

-- what is wrong with an index at this token, of this type, behind which this is written
abbrev pub type_faults : ℕ → Option (List ℕ) → List ℕ → List (Fault NameWhy)
type_faults token None written = fault token NoSuchType
type_faults token (Some t) written = if differs t written then fault token TypeDiffers else []

-- the same of an identifier that has this place or none
abbrev pub place_faults : List (List ℕ) → ℕ → Option ℕ → List ℕ → List (Fault NameWhy)
place_faults ts token None written = fault token UnknownId
place_faults ts token (Some n) written = type_faults token (slice_get ts n) written

-- what is wrong with the index of a use, where types have these identifiers
abbrev pub index_faults : List (Option (List ℕ)) → List (List ℕ) → Option Index → List ℕ → List (Fault NameWhy)
index_faults ids ts None written = []
index_faults ids ts (Some (index.Number token n)) written = type_faults token (slice_get ts n) written
index_faults ids ts (Some (index.Named id)) written = place_faults ts id.token (place_of id.text ids) written

-- an identifier of a parameter at this token stands only where it names a local
abbrev pub param_fault : User → ℕ → List (Fault NameWhy)
param_fault user.Func token = []
param_fault user.CallIndirect token = fault token NamedParam
param_fault user.Block token = fault token BlockParam

-- what is wrong with the identifiers of parameters of a use
abbrev pub param_faults : User → List ParamName → List (Fault NameWhy)
param_faults u names = flat_map (λ n. param_fault u n.id.token) names

-- what is wrong with a use
abbrev pub use_faults : List (Option (List ℕ)) → List (List ℕ) → TypeUse → List (Fault NameWhy)
use_faults ids ts u = index_faults ids ts u.index (key_of u.signature) ++ param_faults u.user u.names

-- the type that a use is of, by its index; 0 where something is wrong with it
abbrev pub named_index : List (Option (List ℕ)) → Index → ℕ
named_index ids (index.Number token n) = n
named_index ids (index.Named id) = unwrap_or (place_of id.text ids) 0

-- the same where the index may be left out: then the smallest index of the type that is written
abbrev pub index_in : List (Option (List ℕ)) → List (List ℕ) → Option Index → List ℕ → ℕ
index_in ids ts None written = unwrap_or (index_of written ts) 0
index_in ids ts (Some i) written = named_index ids i

-- the index of the type that a use is of
abbrev pub use_index : List (Option (List ℕ)) → List (List ℕ) → TypeUse → ℕ
use_index ids ts u = index_in ids ts u.index (key_of u.signature)
