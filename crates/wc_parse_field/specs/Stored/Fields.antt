-- How the code stores fields (Core 1.0, 6.6.2 to 6.6.12).
use Rattle.std.specs.Prelude.{ℕ, map, Option, option_map}
use Rattle.wc_ast.specs.declared.limits.GlobalType.{GlobalType}
use Rattle.wc_surface.specs.declared.type_use.User.TheVariants as user
use Rattle.wc_surface.specs.declared.local.Local.{Local as StoredLocal}
use Rattle.wc_surface.specs.declared.field.Field.{Field as StoredField}
use Rattle.wc_surface.specs.declared.field.Field.TheVariants as stored
use Rattle.wc_surface.specs.declared.field.TypeField.{TypeField}
use Rattle.wc_surface.specs.declared.field.ImportField.{ImportField}
use Rattle.wc_surface.specs.declared.field.FuncField.{FuncField}
use Rattle.wc_surface.specs.declared.field.TableField.{TableField}
use Rattle.wc_surface.specs.declared.field.MemoryField.{MemoryField}
use Rattle.wc_surface.specs.declared.field.GlobalField.{GlobalField}
use Rattle.wc_surface.specs.declared.field.ImportNames.{ImportNames}
use Rattle.wc_surface.specs.declared.field.ImportDesc.{ImportDesc}
use Rattle.wc_surface.specs.declared.field.ImportDesc.TheVariants as desc
use Rattle.wc_surface.specs.declared.field.FuncDesc.{FuncDesc}
use Rattle.wc_surface.specs.declared.field.FuncDesc.TheVariants as func
use Rattle.wc_surface.specs.declared.field.TableDesc.{TableDesc}
use Rattle.wc_surface.specs.declared.field.TableDesc.TheVariants as table
use Rattle.wc_surface.specs.declared.field.MemoryDesc.{MemoryDesc}
use Rattle.wc_surface.specs.declared.field.MemoryDesc.TheVariants as memory
use Rattle.wc_surface.specs.declared.field.GlobalDesc.{GlobalDesc}
use Rattle.wc_surface.specs.declared.field.GlobalDesc.TheVariants as global
use Rattle.wc_surface.specs.Standard.Identifiers.{Identifier}
use Rattle.wc_surface.specs.Standard.Keys.{func_type}
use Rattle.wc_surface.specs.Standard.Written.TypeUses.{Signature, TypeUse}
use Rattle.wc_surface.specs.Standard.Written.Fields.{Import, Local, Desc, Function, Table, Memory, Global, Declared}
use Rattle.wc_surface.specs.Standard.Written.Fields.{Field, type_field, import_field, func_field, table_field}
use Rattle.wc_surface.specs.Standard.Written.Fields.{memory_field, global_field, export_field, start_field, elem_field}
use Rattle.wc_surface.specs.Standard.Written.Fields.{data_field}
use Rattle.wc_parse_code.specs.Stored.TypeUses.{index_as, names_from, use_as}
use Rattle.wc_parse_code.specs.Stored.Bodies.{body_as}

-- a type (6.6.2)
abbrev pub type_as : Option Identifier → Signature → TypeField
type_as i s = record {
  id = i;
  signature = func_type (map (λ p. p.ty) s.params) s.results;
  names = names_from 0 s.params;
}

-- what an import asks for (6.6.4)
abbrev pub import_as : Import → ImportNames
import_as m = record { token = m.token; «module» = m.«module»; item = m.item }

-- what an import brings; the type use of a function has the number of the word `import` (6.6.4)
abbrev pub desc_as : ℕ → Desc → ImportDesc
desc_as token (Desc.func u) = desc.Func (use_as user.Func token u)
desc_as token (Desc.table l) = desc.Table l
desc_as token (Desc.memory l) = desc.Memory l
desc_as token (Desc.global g) = desc.Global g

-- an import (6.6.4)
abbrev pub import_field_as : Import → Option Identifier → Desc → ImportField
import_field_as m i d = record { names = import_as m; id = i; desc = desc_as m.token d }

-- a local (6.6.5)
abbrev pub local_as : Local → StoredLocal
local_as l = record { id = l.id; ty = l.ty; token = l.token }

-- the type use of a function (6.6.5)
abbrev pub type_of : Function → TypeUse
type_of (Function.imported m u) = u
type_of (Function.code u ls c) = u

-- how a function is given (6.6.5)
abbrev pub function_as : Function → FuncDesc
function_as (Function.imported m u) = func.Import (import_as m)
function_as (Function.code u ls c) = func.Code (map local_as ls) (body_as c)

-- a function, whose word has this number (6.6.5)
abbrev pub func_as : ℕ → Declared → Function → FuncField
func_as token d f = record {
  id = d.id;
  exports = d.exports;
  ty = use_as user.Func token (type_of f);
  desc = function_as f;
}

-- how a table is given (6.6.6)
abbrev pub given_table : Table → TableDesc
given_table (Table.imported m l) = table.Import (import_as m) l
given_table (Table.limits l) = table.Limits l
given_table (Table.elements xs) = table.Elems (map index_as xs)

-- a table (6.6.6)
abbrev pub table_as : Declared → Table → TableField
table_as d t = record { id = d.id; exports = d.exports; desc = given_table t }

-- how a memory is given (6.6.7)
abbrev pub given_memory : Memory → MemoryDesc
given_memory (Memory.imported m l) = memory.Import (import_as m) l
given_memory (Memory.limits l) = memory.Limits l
given_memory (Memory.bytes bytes) = memory.Bytes bytes

-- a memory (6.6.7)
abbrev pub memory_as : Declared → Memory → MemoryField
memory_as d m = record { id = d.id; exports = d.exports; desc = given_memory m }

-- the type of a global (6.6.8)
abbrev pub global_type : Global → GlobalType
global_type (Global.imported m g) = g
global_type (Global.init g c) = g

-- how a global is given (6.6.8)
abbrev pub given_global : Global → GlobalDesc
given_global (Global.imported m g) = global.Import (import_as m)
given_global (Global.init g c) = global.Init (body_as c)

-- a global (6.6.8)
abbrev pub global_as : Declared → Global → GlobalField
global_as d g = record { id = d.id; exports = d.exports; ty = global_type g; desc = given_global g }

-- a field, by its word (6.6.2 to 6.6.12)
abbrev pub field_as : Field → StoredField
field_as (type_field i s) = stored.FuncType (type_as i s)
field_as (import_field m i d) = stored.Import (import_field_as m i d)
field_as (func_field token d f) = stored.Func (func_as token d f)
field_as (table_field d t) = stored.Table (table_as d t)
field_as (memory_field d m) = stored.Memory (memory_as d m)
field_as (global_field d g) = stored.Global (global_as d g)
field_as (export_field name kind x) = stored.Export (record { name = name; kind = kind; index = index_as x })
field_as (start_field token x) = stored.Start (record { token = token; index = index_as x })
field_as (elem_field t c xs) =
    stored.Elem (record { table = option_map index_as t; offset = body_as c; funcs = map index_as xs })
field_as (data_field m c bytes) =
    stored.Data (record { memory = option_map index_as m; offset = body_as c; bytes = bytes })
