-- The layout of a module's text (Core 1.0, 6.6). Which of a module's texts is printed is this project's own choice: one
-- field a line behind two spaces, the kinds of fields in the order of their sections (5.5), no identifier and no folded
-- instruction.
use Rattle.std.specs.Prelude.{ℕ, Bool, true, false, Option, Some, None, List, [], ◌∷◌, ◌++◌, codes, map}
use Rattle.std.specs.List.{flat_map}
use Rattle.wc_ops.specs.declared.val_type.ValType.{ValType}
use Rattle.wc_ast.specs.declared.func_type.FuncType.{FuncType}
use Rattle.wc_body.specs.declared.instr.BlockType.{BlockType}
use Rattle.wc_body.specs.declared.instr.Instr.{Instr}
use Rattle.wc_body.specs.Standard.Nested.{Code}
use Rattle.wc_ast.specs.declared.limits.Limits.{Limits}
use Rattle.wc_ast.specs.declared.import.Desc.{Desc}
use Rattle.wc_ast.specs.declared.import.Desc.TheVariants as descs
use Rattle.wc_ast.specs.declared.import.Import.{Import}
use Rattle.wc_ast.specs.declared.func.Func.{Func}
use Rattle.wc_ast.specs.declared.func.Global.{Global}
use Rattle.wc_ast.specs.declared.export.ExportKind.{ExportKind}
use Rattle.wc_ast.specs.declared.export.ExportKind.TheVariants as kinds
use Rattle.wc_ast.specs.declared.export.Export.{Export}
use Rattle.wc_ast.specs.declared.segment.Elem.{Elem}
use Rattle.wc_ast.specs.declared.segment.Data.{Data}
use Rattle.wc_ast.specs.declared.module.Module.{Module}
use Rattle.wc_print.specs.Standard.Printed.{opening, closing, word, number, quoted, Item, next, after, below}
use Rattle.wc_print.specs.Standard.Lines.{type_item, type_use_items, number_items, body_items, expr_items}

-- ` (param i32 i64)`, unless there is none of these types (6.4.2)
abbrev pub values_items : List ℕ → List ValType → List Item
values_items w [] = []
values_items w (t ∷ ts) =
    after opening ∷ next (word w) ∷ type_item t ∷ (map type_item ts ++ next closing ∷ [])

-- `  (type (func (param i32) (result i32)))` (6.6.2)
abbrev pub type_items : FuncType → List Item
type_items t =
    below 2 opening ∷ next (word (codes "type")) ∷ after opening ∷ next (word (codes "func"))
    ∷ (values_items (codes "param") t.params
    ++ (values_items (codes "result") t.results
    ++ (next closing ∷ next closing ∷ [])))

-- ` 2`, unless there is no greatest size (6.4.3)
abbrev pub max_items : Option ℕ → List Item
max_items None = []
max_items (Some n) = after (number n) ∷ []

-- ` 1 2`, or ` 1` where there is no greatest size (6.4.3)
abbrev pub limits_items : Limits → List Item
limits_items l = after (number l.min) ∷ max_items l.max

-- ` i32`, or ` (mut i32)` (6.4.6)
abbrev pub global_type_items : Bool → ValType → List Item
global_type_items false t = type_item t ∷ []
global_type_items true t = after opening ∷ next (word (codes "mut")) ∷ type_item t ∷ next closing ∷ []

-- ` (func (type 0))`, ` (table 1 funcref)`, ` (memory 1)` or ` (global i32)` (6.6.4)
abbrev pub desc_items : Desc → List Item
desc_items (descs.Func index) =
    after opening ∷ next (word (codes "func")) ∷ (type_use_items index ++ (next closing ∷ []))
desc_items (descs.Table l) =
    after opening ∷ next (word (codes "table"))
    ∷ (limits_items l ++ (after (word (codes "funcref")) ∷ next closing ∷ []))
desc_items (descs.Memory l) =
    after opening ∷ next (word (codes "memory")) ∷ (limits_items l ++ (next closing ∷ []))
desc_items (descs.Global g) =
    after opening ∷ next (word (codes "global")) ∷ (global_type_items g.mutable g.ty ++ (next closing ∷ []))

-- `  (import "m" "n" (func (type 0)))` (6.6.4)
abbrev pub import_items : Import → List Item
import_items i =
    below 2 opening ∷ next (word (codes "import")) ∷ after (quoted i.«module») ∷ after (quoted i.name)
    ∷ (desc_items i.desc ++ (next closing ∷ []))

-- `  (func (type 0) (local i32)`, then a line for each instruction, `else` and `end`, then `  )` (6.6.5)
abbrev pub func_items : Func → List Item
func_items f =
    below 2 opening ∷ next (word (codes "func"))
    ∷ (type_use_items f.ty
    ++ (values_items (codes "local") f.locals
    ++ (body_items f.body
    ++ (below 2 closing ∷ []))))

-- `  (table 1 funcref)` (6.6.6)
abbrev pub table_items : Limits → List Item
table_items l =
    below 2 opening ∷ next (word (codes "table"))
    ∷ (limits_items l ++ (after (word (codes "funcref")) ∷ next closing ∷ []))

-- `  (memory 1)` (6.6.7)
abbrev pub memory_items : Limits → List Item
memory_items l = below 2 opening ∷ next (word (codes "memory")) ∷ (limits_items l ++ (next closing ∷ []))

-- `  (global (mut i32) i32.const 0)` (6.6.8)
abbrev pub global_items : Global → List Item
global_items g =
    below 2 opening ∷ next (word (codes "global"))
    ∷ (global_type_items g.ty.mutable g.ty.ty
    ++ (expr_items g.init
    ++ (next closing ∷ [])))

-- the word of an index space (6.6.9)
abbrev pub kind_word : ExportKind → List ℕ
kind_word kinds.Func = codes "func"
kind_word kinds.Table = codes "table"
kind_word kinds.Memory = codes "memory"
kind_word kinds.Global = codes "global"

-- `  (export "n" (func 0))` (6.6.9)
abbrev pub export_items : Export → List Item
export_items e =
    below 2 opening ∷ next (word (codes "export")) ∷ after (quoted e.name)
    ∷ after opening ∷ next (word (kind_word e.kind)) ∷ after (number e.index) ∷ next closing ∷ next closing ∷ []

-- `  (start 0)`, where there is a start function (6.6.10)
abbrev pub start_items : Option ℕ → List Item
start_items None = []
start_items (Some index) =
    below 2 opening ∷ next (word (codes "start")) ∷ after (number index) ∷ next closing ∷ []

-- ` (offset i32.const 0)` (6.6.11, 6.6.12)
abbrev pub place_items : Code Instr BlockType → List Item
place_items code = after opening ∷ next (word (codes "offset")) ∷ (expr_items code ++ (next closing ∷ []))

-- `  (elem 0 (offset i32.const 0) 1 2)` (6.6.11)
abbrev pub elem_items : Elem → List Item
elem_items e =
    below 2 opening ∷ next (word (codes "elem")) ∷ after (number e.table)
    ∷ (place_items e.offset
    ++ (number_items e.funcs
    ++ (next closing ∷ [])))

-- `  (data 0 (offset i32.const 0) "a\00")` (6.6.12)
abbrev pub data_items : Data → List Item
data_items d =
    below 2 opening ∷ next (word (codes "data")) ∷ after (number d.memory)
    ∷ (place_items d.offset
    ++ (after (quoted d.bytes) ∷ next closing ∷ []))

-- the fields of a module, each kind in its own order
abbrev pub field_items : Module → List Item
field_items m =
    flat_map type_items m.types
    ++ (flat_map import_items m.imports
    ++ (flat_map func_items m.funcs
    ++ (flat_map table_items m.tables
    ++ (flat_map memory_items m.mems
    ++ (flat_map global_items m.globals
    ++ (flat_map export_items m.exports
    ++ (start_items m.start
    ++ (flat_map elem_items m.elems
    ++ flat_map data_items m.datas))))))))

-- `(module`, the fields, and `)` on a line of its own (6.6.13)
abbrev pub layout : Module → List Item
layout m = next opening ∷ next (word (codes "module")) ∷ (field_items m ++ (below 0 closing ∷ []))
