-- The list of types (Core 1.0, 6.6.3 and 6.6.13): the types of the fields, and behind them the type of each use that
-- is written without an index, unless it is in the list. Uses are taken in the order of the text.
use Rattle.std.specs.Prelude.{ℕ, List, [], ◌∷◌, ◌++◌, map, Option, Some, None, is_some, if◌then◌else◌}
use Rattle.std.specs.List.{flat_map}
use Rattle.wc_ast.specs.declared.func_type.FuncType.{FuncType}
use Rattle.wc_spaces.specs.Standard.Types.{index_of}
use Rattle.wc_surface.specs.Standard.Keys.{key_of}
use Rattle.wc_surface.specs.declared.id.Index.{Index}
use Rattle.wc_surface.specs.declared.type_use.TypeUse.{TypeUse}
use Rattle.wc_surface.specs.declared.field.Field.{Field}
use Rattle.wc_surface.specs.declared.field.Field.TheVariants as field
use Rattle.wc_surface.specs.declared.field.ImportDesc.{ImportDesc}
use Rattle.wc_surface.specs.declared.field.ImportDesc.TheVariants as import
use Rattle.wc_surface.specs.declared.field.FuncDesc.{FuncDesc}
use Rattle.wc_surface.specs.declared.field.FuncDesc.TheVariants as func
use Rattle.wc_surface.specs.declared.field.GlobalDesc.{GlobalDesc}
use Rattle.wc_surface.specs.declared.field.GlobalDesc.TheVariants as global

-- the type that a field defines (6.6.2)
abbrev pub written_type : Field → List FuncType
written_type (field.FuncType f) = f.signature ∷ []
written_type _ = []

-- the types that these fields define
abbrev pub written_types : List Field → List FuncType
written_types fs = flat_map written_type fs

-- the use of an import (6.6.4)
abbrev pub import_uses : ImportDesc → List TypeUse
import_uses (import.Func u) = u ∷ []
import_uses _ = []

-- the use of a function, or of an import of one
abbrev pub own_uses : Field → List TypeUse
own_uses (field.Import f) = import_uses f.desc
own_uses (field.Func f) = f.ty ∷ []
own_uses _ = []

-- the uses in a function's instructions
abbrev pub func_uses : FuncDesc → List TypeUse
func_uses (func.Import names) = []
func_uses (func.Code locals body) = body.uses

-- the uses in the instructions of a first value
abbrev pub global_uses : GlobalDesc → List TypeUse
global_uses (global.Import names) = []
global_uses (global.Init body) = body.uses

-- the uses in a field's instructions
abbrev pub inner_uses : Field → List TypeUse
inner_uses (field.Func f) = func_uses f.desc
inner_uses (field.Global f) = global_uses f.desc
inner_uses (field.Elem f) = f.offset.uses
inner_uses (field.Data f) = f.offset.uses
inner_uses _ = []

-- a field's own use stands before those of its instructions
abbrev pub uses_of : Field → List TypeUse
uses_of f = own_uses f ++ inner_uses f

-- all uses, in the order of the text
abbrev pub all_uses : List Field → List TypeUse
all_uses fs = flat_map uses_of fs

-- the smallest index of a type
abbrev pub type_index : FuncType → List FuncType → Option ℕ
type_index f ts = index_of (key_of f) (map key_of ts)

-- the list with a type that is written without an index
abbrev pub with_type : List FuncType → FuncType → List FuncType
with_type ts f = if is_some (type_index f ts) then ts else ts ++ f ∷ []

-- a use with an index adds nothing
abbrev pub with_use : List FuncType → Option Index → FuncType → List FuncType
with_use ts None f = with_type ts f
with_use ts (Some i) f = ts

-- the list with the types of these uses, one after the other
abbrev pub with_uses : List FuncType → List TypeUse → List FuncType
with_uses ts [] = ts
with_uses ts (u ∷ us) = with_uses (with_use ts u.index u.signature) us

-- the types of a text
abbrev pub types_of : List Field → List FuncType
types_of fs = with_uses (written_types fs) (all_uses fs)
