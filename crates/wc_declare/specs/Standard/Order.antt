-- Imports stand before definitions, and there is one start function at most (Core 1.0, 6.6.13).
use Rattle.std.specs.Prelude.{ℕ, Bool, true, false, ◌||◌, List, [], ◌∷◌, ◌++◌, Option}
use Rattle.wc_resolve_code.specs.declared.why.NameWhy.{NameWhy}
use Rattle.wc_resolve_code.specs.declared.why.NameWhy.TheVariants.{LateImport, SecondStart}
use Rattle.wc_spaces.specs.declared.noted.Fault.{Fault}
use Rattle.wc_surface.specs.Standard.Identifiers.{Identifier}
use Rattle.wc_surface.specs.declared.field.Field.{Field}
use Rattle.wc_surface.specs.declared.field.Field.TheVariants as field
use Rattle.wc_surface.specs.declared.field.FuncDesc.{FuncDesc}
use Rattle.wc_surface.specs.declared.field.FuncDesc.TheVariants as func
use Rattle.wc_surface.specs.declared.field.TableDesc.{TableDesc}
use Rattle.wc_surface.specs.declared.field.TableDesc.TheVariants as table
use Rattle.wc_surface.specs.declared.field.MemoryDesc.{MemoryDesc}
use Rattle.wc_surface.specs.declared.field.MemoryDesc.TheVariants as memory
use Rattle.wc_surface.specs.declared.field.GlobalDesc.{GlobalDesc}
use Rattle.wc_surface.specs.declared.field.GlobalDesc.TheVariants as global
use Rattle.wc_declare.specs.declared.kind.SpaceKind.{SpaceKind}
use Rattle.wc_declare.specs.declared.order.Sort.{Sort}
use Rattle.wc_declare.specs.declared.order.Sort.TheVariants.{Import, Definition, Start, Other}
use Rattle.wc_declare.specs.Standard.Spaces.{declares}

-- this one fault
abbrev pub fault : ℕ → NameWhy → List (Fault NameWhy)
fault token why = record { token = token; why = why } ∷ []

-- a function field: an import, with the token of its word, or a definition
abbrev pub func_sort : FuncDesc → Sort
func_sort (func.Import names) = Import names.token
func_sort (func.Code locals body) = Definition

-- the same of a table
abbrev pub table_sort : TableDesc → Sort
table_sort (table.Import names limits) = Import names.token
table_sort (table.Limits limits) = Definition
table_sort (table.Elems funcs) = Definition

-- the same of a memory
abbrev pub memory_sort : MemoryDesc → Sort
memory_sort (memory.Import names limits) = Import names.token
memory_sort (memory.Limits limits) = Definition
memory_sort (memory.Bytes bytes) = Definition

-- the same of a global
abbrev pub global_sort : GlobalDesc → Sort
global_sort (global.Import names) = Import names.token
global_sort (global.Init body) = Definition

-- an import, inline too, with the token of its word; a definition of a function, a table, a memory or a global; or
-- another field
abbrev pub sort_of : Field → Sort
sort_of (field.FuncType f) = Other
sort_of (field.Import f) = Import f.names.token
sort_of (field.Func f) = func_sort f.desc
sort_of (field.Table f) = table_sort f.desc
sort_of (field.Memory f) = memory_sort f.desc
sort_of (field.Global f) = global_sort f.desc
sort_of (field.Export f) = Other
sort_of (field.Start f) = Start f.token
sort_of (field.Elem f) = Other
sort_of (field.Data f) = Other

-- an import behind a definition
abbrev pub late : Bool → Sort → List (Fault NameWhy)
late true (Import token) = fault token LateImport
late _ _ = []

-- it is a definition of a function, a table, a memory or a global
abbrev pub defines : Sort → Bool
defines Definition = true
defines _ = false

-- the imports behind a definition, where one was seen before or none
abbrev pub late_after : Bool → List Field → List (Fault NameWhy)
late_after seen [] = []
late_after seen (f ∷ fs) = late seen (sort_of f) ++ late_after (seen || defines (sort_of f)) fs

-- a start behind another
abbrev pub second : Bool → Sort → List (Fault NameWhy)
second true (Start token) = fault token SecondStart
second _ _ = []

-- it is a start function
abbrev pub starts : Sort → Bool
starts (Start token) = true
starts _ = false

-- the starts behind another, where one was seen before or none
abbrev pub second_after : Bool → List Field → List (Fault NameWhy)
second_after seen [] = []
second_after seen (f ∷ fs) = second seen (sort_of f) ++ second_after (seen || starts (sort_of f)) fs

-- what an import declares, where the field is one
abbrev pub if_import : Sort → List (Option Identifier) → List (Option Identifier)
if_import (Import token) ds = ds
if_import _ ds = []

-- what a field declares that is no import
abbrev pub unless_import : Sort → List (Option Identifier) → List (Option Identifier)
unless_import (Import token) ds = []
unless_import _ ds = ds

-- what is imported into an index space
abbrev pub imported : SpaceKind → List Field → List (Option Identifier)
imported k [] = []
imported k (f ∷ fs) = if_import (sort_of f) (declares k f) ++ imported k fs

-- what is defined in an index space
abbrev pub defined : SpaceKind → List Field → List (Option Identifier)
defined k [] = []
defined k (f ∷ fs) = unless_import (sort_of f) (declares k f) ++ defined k fs
