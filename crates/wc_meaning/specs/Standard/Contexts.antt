-- Identifier contexts (Core 1.0, 6.1.3), and indices in them (6.6.1).
use Rattle.std.specs.Prelude.{ℕ, List, [], ◌∷◌, map, Option, Some, None, is_some, if◌then◌else◌}
use Rattle.std.specs.List.{flat_map}
use Rattle.std.specs.Option.{unwrap_or}
use Rattle.wc_ast.specs.declared.func_type.FuncType.{FuncType}
use Rattle.wc_spaces.specs.declared.noted.Fault.{Fault}
use Rattle.wc_spaces.specs.Standard.Spaces.{place_of}
use Rattle.wc_resolve_code.specs.declared.why.NameWhy.{NameWhy}
use Rattle.wc_resolve_code.specs.declared.why.NameWhy.TheVariants.{UnknownId}
use Rattle.wc_surface.specs.Standard.Identifiers.{Identifier}
use Rattle.wc_surface.specs.Standard.Written.Indices.{Index, number, named}

-- what is declared in an index space, in order, each with its identifier, where it has one (6.1.3)
abbrev pub Space : Type 0
Space = List (Option Identifier)

-- The identifier context: what is declared in each index space, labels the innermost first; and the types (6.1.3).
pub record Context : Type 0 where
  pub types : Space
  pub funcs : Space
  pub tables : Space
  pub mems : Space
  pub globals : Space
  pub locals : Space
  pub labels : Space
  pub typedefs : List FuncType

-- what is wrong with names, each at the number of its token
abbrev pub Faults : Type 0
Faults = List (Fault NameWhy)

-- one fault
abbrev pub fault : ℕ → NameWhy → Faults
fault token why = record { token = token; why = why } ∷ []

-- the bytes of an identifier, where there is one (6.3.5)
abbrev pub bytes_in : Option Identifier → Option (List ℕ)
bytes_in None = None
bytes_in (Some i) = Some i.text

-- the place of what first has this identifier, where anything has it (6.3.5)
abbrev pub place_in : Space → Identifier → Option ℕ
place_in space i = place_of i.text (map bytes_in space)

-- the number that an index stands for: itself, or the place of what has the identifier (6.6.1)
abbrev pub found : Space → Index → Option ℕ
found space (number token n) = Some n
found space (named i) = place_in space i

-- The same as a number. Where nothing has the identifier, 0 stands for it, which counts for nothing: it is a fault.
abbrev pub index_in : Space → Index → ℕ
index_in space x = unwrap_or (found space x) 0

-- the token of an index
abbrev pub token_of : Index → ℕ
token_of (number token n) = token
token_of (named i) = i.token

-- what is wrong with an index: nothing has its identifier (6.6.1)
abbrev pub index_faults : Space → Index → Faults
index_faults space x = if is_some (found space x) then [] else fault (token_of x) UnknownId

-- the same of a list of indices
abbrev pub indices_faults : Space → List Index → Faults
indices_faults space xs = flat_map (index_faults space) xs
