-- What fields declare as it is gathered along them, and what is wrong with it, of each part on its own.
use Rattle.std.specs.Prelude.{◌≡◌, ◌≤◌, ◌+◌, ◌++◌, ◌||◌, ℕ, false, List, [], map, Option, None}
use Rattle.std.specs.List.{flat_map}
use Rattle.wc_ast.specs.declared.func_type.FuncType.{FuncType}
use Rattle.wc_spaces.specs.declared.noted.Fault.{Fault}
use Rattle.wc_spaces.specs.declared.space.Space.{Space}
use Rattle.wc_spaces.specs.declared.types.Types.{Types}
use Rattle.wc_spaces.specs.Kept.Spaces.{IsSpace, size_of}
use Rattle.wc_spaces.specs.Kept.Types.{AreTypes, count_of}
use Rattle.wc_spaces.specs.Standard.Least.{least, least_from}
use Rattle.wc_surface.specs.Standard.Identifiers.{Identifier}
use Rattle.wc_surface.specs.Standard.Keys.{key_of}
use Rattle.wc_surface.specs.declared.field.Field.{Field}
use Rattle.wc_resolve_code.specs.declared.why.NameWhy.{NameWhy}
use Rattle.wc_declare.specs.declared.kind.SpaceKind.TheVariants as kind
use Rattle.wc_declare.specs.declared.declared.Spaces.{Spaces}
use Rattle.wc_declare.specs.declared.order.Order.{Order}
use Rattle.wc_declare.specs.declared.gathering.Gathered.{Gathered}
use Rattle.wc_declare.specs.declared.gathering.Repeats.{Repeats}
use Rattle.wc_declare.specs.declared.gathering.Notes.{Notes}
use Rattle.wc_declare.specs.Standard.Spaces.{declares, space, texts, repeated, repeated_after}
use Rattle.wc_declare.specs.Standard.Order.{sort_of, late, late_after, defines, second, second_after, starts}
use Rattle.wc_declare.specs.Standard.Inner.{inner_faults}
use Rattle.wc_declare.specs.Standard.Types.{written_type}

-- nothing is declared
pub record NoSpaces (spaces : Spaces) : Type 0 where
  pub types : IsSpace [] spaces.types
  pub funcs : IsSpace [] spaces.funcs
  pub tables : IsSpace [] spaces.tables
  pub memories : IsSpace [] spaces.memories
  pub globals : IsSpace [] spaces.globals

-- no field was gone through
pub record NoNotes (notes : Notes) : Type 0 where
  pub types : notes.repeats.types.first ≡ None
  pub funcs : notes.repeats.funcs.first ≡ None
  pub tables : notes.repeats.tables.first ≡ None
  pub memories : notes.repeats.memories.first ≡ None
  pub globals : notes.repeats.globals.first ≡ None
  pub defined : notes.order.defined ≡ false
  pub started : notes.order.started ≡ false
  pub late : notes.order.late.first ≡ None
  pub second : notes.order.second.first ≡ None
  pub inner : notes.inner.first ≡ None

-- no more than this many in each index space
pub record AtMost (most : ℕ) (spaces : Spaces) : Type 0 where
  pub types : size_of spaces.types ≤ most
  pub funcs : size_of spaces.funcs ≤ most
  pub tables : size_of spaces.tables ≤ most
  pub memories : size_of spaces.memories ≤ most
  pub globals : size_of spaces.globals ≤ most

-- an index space with these declarations more, and what is wrong with them
pub record Adds (ds : List (Option Identifier)) (old new : Space) (told now : Option (Fault NameWhy)) : Type 0 where
  pub size : size_of new ≤ size_of old + 1
  pub space : (before : List (Option (List ℕ))) → IsSpace before old → IsSpace (before ++ texts ds) new
  pub noted : (before : List (Option (List ℕ))) → IsSpace before old
      → now ≡ least_from told (repeated_after before ds)

-- the index spaces with what one more field declares
pub record Declares (f : Field) (old new : Spaces) (told now : Repeats) : Type 0 where
  pub types : Adds (declares kind.Type f) old.types new.types told.types.first now.types.first
  pub funcs : Adds (declares kind.Func f) old.funcs new.funcs told.funcs.first now.funcs.first
  pub tables : Adds (declares kind.Table f) old.tables new.tables told.tables.first now.tables.first
  pub memories : Adds (declares kind.Memory f) old.memories new.memories told.memories.first now.memories.first
  pub globals : Adds (declares kind.Global f) old.globals new.globals told.globals.first now.globals.first

-- one more field in the order of fields
pub record Follows (f : Field) (old new : Order) : Type 0 where
  pub defined : new.defined ≡ (old.defined || defines (sort_of f))
  pub started : new.started ≡ (old.started || starts (sort_of f))
  pub late : new.late.first ≡ least_from old.late.first (late old.defined (sort_of f))
  pub second : new.second.first ≡ least_from old.second.first (second old.started (sort_of f))

-- one more type, where the field defines one
pub record Lists (f : Field) (old new : Types) : Type 0 where
  pub count : count_of new ≤ count_of old + 1
  pub types : (ts : List FuncType) → AreTypes (map key_of ts) old → AreTypes (map key_of (ts ++ written_type f)) new

-- one more field
pub record Grows (f : Field) (old new : Gathered) (told now : Notes) : Type 0 where
  pub spaces : Declares f old.spaces new.spaces told.repeats now.repeats
  pub types : Lists f old.types new.types
  pub order : Follows f told.order now.order
  pub inner : now.inner.first ≡ least_from told.inner.first (inner_faults f)

-- what is wrong with declarations was noted, of each part on its own
pub record AreTold (all : List Field) (notes : Notes) : Type 0 where
  pub types : notes.repeats.types.first ≡ least (repeated (space kind.Type all))
  pub funcs : notes.repeats.funcs.first ≡ least (repeated (space kind.Func all))
  pub tables : notes.repeats.tables.first ≡ least (repeated (space kind.Table all))
  pub memories : notes.repeats.memories.first ≡ least (repeated (space kind.Memory all))
  pub globals : notes.repeats.globals.first ≡ least (repeated (space kind.Global all))
  pub late : notes.order.late.first ≡ least (late_after false all)
  pub second : notes.order.second.first ≡ least (second_after false all)
  pub inner : notes.inner.first ≡ least (flat_map inner_faults all)
