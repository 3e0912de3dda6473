-- Element and data segments (Core 1.0, 6.6.11 and 6.6.12), in the order of the text. Elements inside a table and bytes
-- inside a memory are a segment of it, from 0 on (6.6.6 and 6.6.7).
use Rattle.std.specs.Prelude.{ℕ, pos, List, [], ◌∷◌, ◌++◌, map, Option, Some, None, option_to_list}
use Rattle.wc_body.specs.declared.instr.Instr.{Instr}
use Rattle.wc_body.specs.declared.instr.Instr.TheVariants.{I32Const}
use Rattle.wc_body.specs.declared.instr.BlockType.{BlockType}
use Rattle.wc_body.specs.Standard.Nested.{Code, empty, op}
use Rattle.wc_ast.specs.declared.export.ExportKind.TheVariants as kind
use Rattle.wc_ast.specs.declared.segment.Elem.{Elem}
use Rattle.wc_ast.specs.declared.segment.Data.{Data}
use Rattle.wc_surface.specs.Standard.Written.Indices.{Index}
use Rattle.wc_surface.specs.Standard.Written.Fields.{Table, Memory, Field, table_field, memory_field, elem_field}
use Rattle.wc_surface.specs.Standard.Written.Fields.{data_field}
use Rattle.wc_meaning.specs.Standard.Contexts.{Space, Context, Faults, index_in, indices_faults}
use Rattle.wc_meaning.specs.Standard.Instructions.{resolved, instrs_faults}
use Rattle.wc_meaning.specs.Standard.Exports.{next_index}

-- `i32.const 0`
abbrev pub zero_offset : Code Instr BlockType
zero_offset = op (I32Const (pos 0)) empty

-- the element segment of this table, this offset and these functions
abbrev pub elem : ℕ → Code Instr BlockType → List ℕ → Elem
elem table offset funcs = record { table = table; offset = offset; funcs = funcs }

-- the data segment of this memory, this offset and these bytes
abbrev pub segment : ℕ → Code Instr BlockType → List ℕ → Data
segment memory offset bytes = record { memory = memory; offset = offset; bytes = bytes }

-- the index of the table or memory of a segment; it is 0 where none is written (6.6.11 and 6.6.12)
abbrev pub target : Space → Option Index → ℕ
target space None = 0
target space (Some x) = index_in space x

-- the element segment of a field, behind these fields
abbrev pub field_elems : Context → List Field → Field → List Elem
field_elems c before (table_field d (Table.elements xs)) =
    elem (next_index kind.Table before) zero_offset (map (index_in c.funcs) xs) ∷ []
field_elems c before (elem_field t offset xs) =
    elem (target c.tables t) (resolved c offset) (map (index_in c.funcs) xs) ∷ []
field_elems c before _ = []

-- what is wrong with the names in it
abbrev pub elem_faults : Context → Field → Faults
elem_faults c (table_field d (Table.elements xs)) = indices_faults c.funcs xs
elem_faults c (elem_field t offset xs) =
    indices_faults c.tables (option_to_list t) ++ (instrs_faults c offset ++ indices_faults c.funcs xs)
elem_faults c _ = []

-- the data segment of a field, behind these fields
abbrev pub field_datas : Context → List Field → Field → List Data
field_datas c before (memory_field d (Memory.bytes bytes)) =
    segment (next_index kind.Memory before) zero_offset bytes ∷ []
field_datas c before (data_field m offset bytes) = segment (target c.mems m) (resolved c offset) bytes ∷ []
field_datas c before _ = []

-- what is wrong with the names in it
abbrev pub data_faults : Context → Field → Faults
data_faults c (data_field m offset bytes) = indices_faults c.mems (option_to_list m) ++ instrs_faults c offset
data_faults c _ = []
