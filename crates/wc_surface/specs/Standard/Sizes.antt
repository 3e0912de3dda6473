-- How much a text says. Each that is counted has a token of its own, so no text says more than its length.
use Rattle.std.specs.Prelude.{ℕ, ◌+◌, ◌<◌, ◌^◌, List, length, sum_by, All}
use Rattle.wc_surface.specs.declared.type_use.TypeUse.{TypeUse}
use Rattle.wc_surface.specs.declared.head.TextBody.{TextBody}
use Rattle.wc_surface.specs.declared.field.Field.{Field}
use Rattle.wc_surface.specs.declared.field.Field.TheVariants as field
use Rattle.wc_surface.specs.declared.field.ImportDesc.{ImportDesc}
use Rattle.wc_surface.specs.declared.field.ImportDesc.TheVariants as import
use Rattle.wc_surface.specs.declared.field.FuncDesc.{FuncDesc}
use Rattle.wc_surface.specs.declared.field.FuncDesc.TheVariants as func
use Rattle.wc_surface.specs.declared.field.TableDesc.{TableDesc}
use Rattle.wc_surface.specs.declared.field.TableDesc.TheVariants as table
use Rattle.wc_surface.specs.declared.field.MemoryDesc.{MemoryDesc}
use Rattle.wc_surface.specs.declared.field.MemoryDesc.TheVariants as memory
use Rattle.wc_surface.specs.declared.field.GlobalDesc.{GlobalDesc}
use Rattle.wc_surface.specs.declared.field.GlobalDesc.TheVariants as global

-- a type use and its parameters
abbrev pub use_size : TypeUse → ℕ
use_size u = 1 + length u.signature.params

-- the type uses of a body
abbrev pub body_size : TextBody → ℕ
body_size b = sum_by use_size b.uses

-- the type use of an import, which only one of a function has
abbrev pub import_size : ImportDesc → ℕ
import_size (import.Func u) = use_size u
import_size _ = 0

-- the declared locals and the type uses of a function that is no import
abbrev pub func_size : FuncDesc → ℕ
func_size (func.Import names) = 0
func_size (func.Code locals body) = length locals + body_size body

-- the type uses in the first value of a global that is no import
abbrev pub global_size : GlobalDesc → ℕ
global_size (global.Import names) = 0
global_size (global.Init body) = body_size body

-- type uses, parameters and declared locals inside a field
abbrev pub inner_size : Field → ℕ
inner_size (field.FuncType f) = length f.signature.params
inner_size (field.Import f) = import_size f.desc
inner_size (field.Func f) = use_size f.ty + func_size f.desc
inner_size (field.Table f) = 0
inner_size (field.Memory f) = 0
inner_size (field.Global f) = global_size f.desc
inner_size (field.Export f) = 0
inner_size (field.Start f) = 0
inner_size (field.Elem f) = body_size f.offset
inner_size (field.Data f) = body_size f.offset

-- a field, and what is inside
abbrev pub field_size : Field → ℕ
field_size f = 1 + inner_size f

-- how many functions are listed inside a table (Core 1.0, 6.6.6)
abbrev pub table_inline : TableDesc → ℕ
table_inline (table.Elems funcs) = length funcs
table_inline _ = 0

-- how many bytes stand inside a memory (Core 1.0, 6.6.7)
abbrev pub memory_inline : MemoryDesc → ℕ
memory_inline (memory.Bytes bytes) = length bytes
memory_inline _ = 0

-- the elements or bytes inside a table or a memory
abbrev pub inline_size : Field → ℕ
inline_size (field.Table f) = table_inline f.desc
inline_size (field.Memory f) = memory_inline f.desc
inline_size _ = 0

-- what holds of the fields of every text
pub record IsSurface (fields : List Field) : Type 0 where
  pub sized : sum_by field_size fields < 2 ^ 32
  pub inlined : All (λ f. inline_size f < 2 ^ 32) fields
