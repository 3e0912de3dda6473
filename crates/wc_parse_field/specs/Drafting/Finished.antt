-- The field that was said (Core 1.0, 6.6.2 to 6.6.13).
use Rattle.std.specs.Prelude.{ℕ, Bool, true, false, Option, Some, None}
use Rattle.wc_ast.specs.declared.limits.Limits.{Limits}
use Rattle.wc_ast.specs.declared.limits.GlobalType.{GlobalType}
use Rattle.wc_ast.specs.declared.export.ExportKind.{ExportKind}
use Rattle.wc_ast.specs.declared.export.ExportKind.TheVariants as export
use Rattle.wc_syntax.specs.declared.kind.Kind.{Kind}
use Rattle.wc_syntax.specs.declared.kind.Kind.TheVariants as kind
use Rattle.wc_surface.specs.declared.id.Index.{Index}
use Rattle.wc_surface.specs.declared.id.Index.TheVariants.{Number}
use Rattle.wc_surface.specs.declared.field.Field.{Field}
use Rattle.wc_surface.specs.declared.field.Field.TheVariants as field
use Rattle.wc_surface.specs.declared.field.TypeField.{TypeField}
use Rattle.wc_surface.specs.declared.field.ImportField.{ImportField}
use Rattle.wc_surface.specs.declared.field.FuncField.{FuncField}
use Rattle.wc_surface.specs.declared.field.TableField.{TableField}
use Rattle.wc_surface.specs.declared.field.MemoryField.{MemoryField}
use Rattle.wc_surface.specs.declared.field.GlobalField.{GlobalField}
use Rattle.wc_surface.specs.declared.field.ExportField.{ExportField}
use Rattle.wc_surface.specs.declared.field.StartField.{StartField}
use Rattle.wc_surface.specs.declared.segment.ElemField.{ElemField}
use Rattle.wc_surface.specs.declared.segment.DataField.{DataField}
use Rattle.wc_surface.specs.declared.field.ImportNames.{ImportNames}
use Rattle.wc_surface.specs.declared.field.ImportDesc.{ImportDesc}
use Rattle.wc_surface.specs.declared.field.ImportDesc.TheVariants as import
use Rattle.wc_surface.specs.declared.field.FuncDesc.{FuncDesc}
use Rattle.wc_surface.specs.declared.field.FuncDesc.TheVariants as func
use Rattle.wc_surface.specs.declared.field.TableDesc.{TableDesc}
use Rattle.wc_surface.specs.declared.field.TableDesc.TheVariants as table
use Rattle.wc_surface.specs.declared.field.MemoryDesc.{MemoryDesc}
use Rattle.wc_surface.specs.declared.field.MemoryDesc.TheVariants as memory
use Rattle.wc_surface.specs.declared.field.GlobalDesc.{GlobalDesc}
use Rattle.wc_surface.specs.declared.field.GlobalDesc.TheVariants as global
use Rattle.wc_surface.specs.Standard.Keys.{func_type}
use Rattle.wc_parse_code.specs.declared.use_draft.UseDraft.{UseDraft}
use Rattle.wc_parse_code.specs.Drafting.Uses.{use_of}
use Rattle.wc_parse_code.specs.Drafting.Ending.{ended}
use Rattle.wc_parse_field.specs.declared.names.Names.{Names}
use Rattle.wc_parse_field.specs.declared.locals_draft.LocalsDraft.{LocalsDraft}
use Rattle.wc_parse_field.specs.declared.contents.Contents.{Contents}
use Rattle.wc_parse_field.specs.declared.code_draft.CodeDraft.{CodeDraft}
use Rattle.wc_parse_field.specs.declared.field_draft.FieldDraft.{FieldDraft}

-- what an import asks for, by the number of its word
abbrev pub asked_at : Names → ℕ → ImportNames
asked_at n token = record { token = token; «module» = n.«module»; item = n.item }

-- the same, where the word stands
abbrev pub asked : Option ℕ → Names → Option ImportNames
asked (Some token) n = Some (asked_at n token)
asked None n = None

-- what is exported, or starts: the grammar always gives it, so no text comes to the second line
abbrev pub target_of : Option Index → Index
target_of (Some i) = i
target_of None = Number 0 0

-- what an import brings (6.6.4)
abbrev pub import_by : ExportKind → UseDraft → Limits → GlobalType → ImportDesc
import_by export.Func u l g = import.Func (use_of u)
import_by export.Table u l g = import.Table l
import_by export.Memory u l g = import.Memory l
import_by export.Global u l g = import.Global g

-- how a function is given (6.6.5)
abbrev pub func_by : Option ImportNames → LocalsDraft → CodeDraft → FuncDesc
func_by (Some names) l c = func.Import names
func_by None l c = func.Code l.locals (ended c.body)

-- how a table is given that is no import: by its elements, or by its limits (6.6.6)
abbrev pub table_inside : Bool → Limits → Contents → TableDesc
table_inside true l c = table.Elems c.elements
table_inside false l c = table.Limits l

-- how a table is given: as an import where one is asked for, else so (6.6.6)
abbrev pub table_by : Option ImportNames → Limits → Contents → TableDesc
table_by (Some names) l c = table.Import names l
table_by None l c = table_inside c.inside l c

-- how a memory is given that is no import: by its bytes, or by its limits (6.6.7)
abbrev pub memory_inside : Bool → Limits → Contents → MemoryDesc
memory_inside true l c = memory.Bytes c.bytes
memory_inside false l c = memory.Limits l

-- how a memory is given: as an import where one is asked for, else so (6.6.7)
abbrev pub memory_by : Option ImportNames → Limits → Contents → MemoryDesc
memory_by (Some names) l c = memory.Import names l
memory_by None l c = memory_inside c.inside l c

-- how a global is given (6.6.8)
abbrev pub global_by : Option ImportNames → CodeDraft → GlobalDesc
global_by (Some names) c = global.Import names
global_by None c = global.Init (ended c.body)

-- a type (6.6.2)
abbrev pub type_field : FieldDraft → TypeField
type_field d = record { id = d.names.id; signature = func_type d.ty.params d.ty.results; names = d.ty.names }

-- an import (6.6.4)
abbrev pub import_field : FieldDraft → ImportField
import_field d = record {
  names = asked_at d.names d.token;
  id = d.names.id;
  desc = import_by d.description d.ty d.limits d.global;
}

-- a function (6.6.5)
abbrev pub func_field : FieldDraft → FuncField
func_field d = record {
  id = d.names.id;
  exports = d.names.exports;
  ty = use_of d.ty;
  desc = func_by (asked d.names.imported d.names) d.locals d.code;
}

-- a table (6.6.6)
abbrev pub table_field : FieldDraft → TableField
table_field d = record {
  id = d.names.id;
  exports = d.names.exports;
  desc = table_by (asked d.names.imported d.names) d.limits d.contents;
}

-- a memory (6.6.7)
abbrev pub memory_field : FieldDraft → MemoryField
memory_field d = record {
  id = d.names.id;
  exports = d.names.exports;
  desc = memory_by (asked d.names.imported d.names) d.limits d.contents;
}

-- a global (6.6.8)
abbrev pub global_field : FieldDraft → GlobalField
global_field d = record {
  id = d.names.id;
  exports = d.names.exports;
  ty = d.global;
  desc = global_by (asked d.names.imported d.names) d.code;
}

-- an export (6.6.9)
abbrev pub export_field : FieldDraft → ExportField
export_field d = record { name = d.names.item; kind = d.description; index = target_of d.contents.target }

-- an element segment (6.6.11)
abbrev pub elem_field : FieldDraft → ElemField
elem_field d = record { table = d.contents.target; offset = ended d.code.body; funcs = d.contents.elements }

-- a data segment (6.6.12)
abbrev pub data_field : FieldDraft → DataField
data_field d = record { memory = d.contents.target; offset = ended d.code.body; bytes = d.contents.bytes }

-- the start function (6.6.10)
abbrev pub start_field : FieldDraft → StartField
start_field d = record { token = d.token; index = target_of d.contents.target }

-- the field of its word (6.6.13); other words than these stand in no text
abbrev pub finished_by : Kind → FieldDraft → Field
finished_by kind.TypeWord d = field.FuncType (type_field d)
finished_by kind.ImportWord d = field.Import (import_field d)
finished_by kind.FuncWord d = field.Func (func_field d)
finished_by kind.TableWord d = field.Table (table_field d)
finished_by kind.MemoryWord d = field.Memory (memory_field d)
finished_by kind.GlobalWord d = field.Global (global_field d)
finished_by kind.ExportWord d = field.Export (export_field d)
finished_by kind.ElemWord d = field.Elem (elem_field d)
finished_by kind.DataWord d = field.Data (data_field d)
finished_by _ d = field.Start (start_field d)

-- the field that was said, by the word that it began with
abbrev pub finished : FieldDraft → Field
finished d = finished_by d.kind d
