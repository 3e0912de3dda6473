-- Element and data segments (Core 1.0, 6.6.11 and 6.6.12), in the order of the text. Elements inside a table and bytes
-- inside a memory are a segment of it, from 0 on (6.6.6 and 6.6.7).
use Rattle.std.specs.Prelude.{ℕ, pos, List, [], ◌∷◌, ◌++◌}
use Rattle.std.specs.List.{flat_map}
use Rattle.wc_body.specs.declared.instr.Instr.{Instr}
use Rattle.wc_body.specs.declared.instr.Instr.TheVariants.{I32Const}
use Rattle.wc_body.specs.declared.instr.BlockType.{BlockType}
use Rattle.wc_body.specs.Standard.Nested.{Code, empty, op}
use Rattle.wc_ast.specs.declared.segment.Elem.{Elem}
use Rattle.wc_ast.specs.declared.segment.Data.{Data}
use Rattle.wc_spaces.specs.declared.noted.Fault.{Fault}
use Rattle.wc_surface.specs.declared.field.Field.{Field}
use Rattle.wc_surface.specs.declared.field.Field.TheVariants as field
use Rattle.wc_surface.specs.declared.field.TableDesc.{TableDesc}
use Rattle.wc_surface.specs.declared.field.TableDesc.TheVariants as table
use Rattle.wc_surface.specs.declared.field.MemoryDesc.{MemoryDesc}
use Rattle.wc_surface.specs.declared.field.MemoryDesc.TheVariants as memory
use Rattle.wc_surface.specs.declared.segment.ElemField.{ElemField}
use Rattle.wc_surface.specs.declared.segment.DataField.{DataField}
use Rattle.wc_resolve_code.specs.declared.why.NameWhy.{NameWhy}
use Rattle.wc_declare.specs.declared.kind.SpaceKind.TheVariants as kind
use Rattle.wc_resolve_func.specs.Standard.Constants.{constant_of, constant_faults}
use Rattle.wc_resolve.specs.declared.counts.Counts.{Counts}
use Rattle.wc_resolve.specs.Standard.Counts.{no_counts, along}
use Rattle.wc_resolve.specs.Standard.Indices.{declared_in, index_or_zero, unknown_in, indices_of, unknown_of}

-- `i32.const 0`
abbrev pub zero_offset : Code Instr BlockType
zero_offset = op (I32Const (pos 0)) empty

-- the element segment of this table, this offset and these functions
abbrev pub elem : ℕ → Code Instr BlockType → List ℕ → Elem
elem table offset funcs = record { table = table; offset = offset; funcs = funcs }

-- the data segment of this memory, this offset and these bytes
abbrev pub segment : ℕ → Code Instr BlockType → List ℕ → Data
segment memory offset bytes = record { memory = memory; offset = offset; bytes = bytes }

-- the elements inside the table of this index
abbrev pub inline_elems : List Field → ℕ → TableDesc → List Elem
inline_elems all index (table.Import names limits) = []
inline_elems all index (table.Limits limits) = []
inline_elems all index (table.Elems funcs) = elem index zero_offset (indices_of (declared_in kind.Func all) funcs) ∷ []

-- what is wrong with the indices of the elements inside a table
abbrev pub inline_elem_faults : List Field → TableDesc → List (Fault NameWhy)
inline_elem_faults all (table.Import names limits) = []
inline_elem_faults all (table.Limits limits) = []
inline_elem_faults all (table.Elems funcs) = unknown_of (declared_in kind.Func all) funcs

-- what is written in an element segment
abbrev pub written_elem : List Field → ElemField → Elem
written_elem all f = elem (index_or_zero (declared_in kind.Table all) f.table) (constant_of all f.offset)
    (indices_of (declared_in kind.Func all) f.funcs)

-- what is wrong with the names in an element segment
abbrev pub written_elem_faults : List Field → ElemField → List (Fault NameWhy)
written_elem_faults all f = unknown_in (declared_in kind.Table all) f.table
    ++ (constant_faults all f.offset ++ unknown_of (declared_in kind.Func all) f.funcs)

-- the element segment of a field of `all`, where so many are declared before it
abbrev pub field_elems : List Field → Counts → Field → List Elem
field_elems all c (field.Table f) = inline_elems all c.tables f.desc
field_elems all c (field.Elem f) = written_elem all f ∷ []
field_elems all c _ = []

-- the element segments of a text
abbrev pub elems_of : List Field → List Elem
elems_of all = along (field_elems all) no_counts all

-- what is wrong with the names in the element segment of a field
abbrev pub elem_faults : List Field → Field → List (Fault NameWhy)
elem_faults all (field.Table f) = inline_elem_faults all f.desc
elem_faults all (field.Elem f) = written_elem_faults all f
elem_faults all _ = []

-- the same of all fields
abbrev pub all_elem_faults : List Field → List (Fault NameWhy)
all_elem_faults all = flat_map (elem_faults all) all

-- the bytes inside the memory of this index
abbrev pub inline_datas : ℕ → MemoryDesc → List Data
inline_datas index (memory.Import names limits) = []
inline_datas index (memory.Limits limits) = []
inline_datas index (memory.Bytes bytes) = segment index zero_offset bytes ∷ []

-- what is written in a data segment
abbrev pub written_data : List Field → DataField → Data
written_data all f = segment (index_or_zero (declared_in kind.Memory all) f.memory) (constant_of all f.offset) f.bytes

-- what is wrong with the names in a data segment
abbrev pub written_data_faults : List Field → DataField → List (Fault NameWhy)
written_data_faults all f = unknown_in (declared_in kind.Memory all) f.memory ++ constant_faults all f.offset

-- the data segment of a field of `all`, where so many are declared before it
abbrev pub field_datas : List Field → Counts → Field → List Data
field_datas all c (field.Memory f) = inline_datas c.memories f.desc
field_datas all c (field.Data f) = written_data all f ∷ []
field_datas all c _ = []

-- the data segments of a text
abbrev pub datas_of : List Field → List Data
datas_of all = along (field_datas all) no_counts all

-- what is wrong with the names in the data segment of a field; there are none in bytes inside a memory
abbrev pub data_faults : List Field → Field → List (Fault NameWhy)
data_faults all (field.Data f) = written_data_faults all f
data_faults all _ = []

-- the same of all fields
abbrev pub all_data_faults : List Field → List (Fault NameWhy)
all_data_faults all = flat_map (data_faults all) all
