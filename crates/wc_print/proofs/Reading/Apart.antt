-- In a layout no run stands directly behind a run.
use Rattle.std.proofs.Common.{◌≡◌, ℕ, ◌==◌, Bool, true, false, ◌&&◌, Option, Some, None, List, [], ◌∷◌, ◌++◌, map, refl}
use Rattle.std.proofs.Common.{append_assoc, codes}
use Rattle.std.specs.Prelude.{if◌then◌else◌}
use Rattle.std.specs.List.{flat_map}
use Rattle.wc_ops.specs.declared.val_type.ValType.{ValType}
use Rattle.wc_ops.specs.declared.val_type.ValType.TheVariants.{I32, I64}
use Rattle.wc_body.specs.declared.instr.BlockType.{BlockType}
use Rattle.wc_body.specs.declared.instr.BlockType.TheVariants as block_types
use Rattle.wc_body.specs.declared.instr.Instr.{Instr}
use Rattle.wc_body.specs.declared.instr.Instr.TheVariants as instrs
use Rattle.wc_ast.specs.declared.func_type.FuncType.{FuncType}
use Rattle.wc_ast.specs.declared.limits.Limits.{Limits}
use Rattle.wc_ast.specs.declared.import.Desc.{Desc}
use Rattle.wc_ast.specs.declared.import.Desc.TheVariants as descs
use Rattle.wc_ast.specs.declared.import.Import.{Import}
use Rattle.wc_ast.specs.declared.func.Func.{Func}
use Rattle.wc_ast.specs.declared.func.Global.{Global}
use Rattle.wc_ast.specs.declared.export.Export.{Export}
use Rattle.wc_ast.specs.declared.segment.Elem.{Elem}
use Rattle.wc_ast.specs.declared.segment.Data.{Data}
use Rattle.wc_ast.specs.declared.module.Module.{Module}
use Rattle.wc_ops.specs.Standard.Opcodes.{memory}
use Rattle.wc_body.specs.Standard.Nested.{Code, Mark, plain, begin, begin_if, otherwise, close, flatten}
use Rattle.wc_print.specs.Standard.Printed.{Printed, opening, closing, word, number, quoted, Item, next, after, below}
use Rattle.wc_print.specs.Standard.Printable.{is_run, AreApart}
use Rattle.wc_print.specs.Standard.Lines.{type_item, type_use_items, block_items, number_items}
use Rattle.wc_print.specs.Standard.Lines.{instr_rest, mark_items, body_items, expr_items}
use Rattle.wc_print.specs.Standard.Layout.{values_items, type_items, max_items, limits_items, global_type_items}
use Rattle.wc_print.specs.Standard.Layout.{desc_items, import_items, func_items, table_items, memory_items}
use Rattle.wc_print.specs.Standard.Layout.{global_items, export_items, start_items, place_items, elem_items, data_items}
use Rattle.wc_print.specs.Standard.Layout.{field_items, layout}

-- the items may stand behind anything, and before what may stand behind a run
record Joins (is : List Item) : Type 0 where
  joined : (behind_run : Bool) (rest : List Item) → AreApart true rest → AreApart behind_run (is ++ rest)

anywhere : (behind_run : Bool) (is : List Item) → AreApart true is → AreApart behind_run is
anywhere true is h = h
anywhere false [] h = tt
anywhere false (next p ∷ is) h = (refl, h.1)
anywhere false (after p ∷ is) h = (tt, h.1)
anywhere false (below n p ∷ is) h = (tt, h.1)

nothing : Joins []
nothing = record { joined = anywhere }

infixr 4 ◌⊕◌
◌⊕◌ : {a b : List Item} → Joins a → Joins b → Joins (a ++ b)
◌⊕◌ {a = a} {b = b} j k =
    record { joined = λ r rest h. rw (append_assoc a b rest) (j.joined r (b ++ rest) (k.joined true rest h)) }

all : {A : Type 0} (f : A → List Item) → ((x : A) → Joins (f x)) → (xs : List A) → Joins (flat_map f xs)
all f each [] = nothing
all f each (x ∷ xs) = each x ⊕ all f each xs

some : (b : Bool) {is : List Item} → Joins is → Joins (if b then [] else is)
some true j = nothing
some false j = j

behind : (p : Printed) → Joins (after p ∷ [])
behind p = record { joined = λ r rest h. (tt, anywhere (is_run p) rest h) }

on_line : (n : ℕ) (p : Printed) → Joins (below n p ∷ [])
on_line n p = record { joined = λ r rest h. (tt, anywhere (is_run p) rest h) }

opens : (w : List ℕ) → Joins (after opening ∷ next (word w) ∷ [])
opens w = record { joined = λ r rest h. (tt, (refl, h)) }

field : (w : List ℕ) → Joins (below 2 opening ∷ next (word w) ∷ [])
field w = record { joined = λ r rest h. (tt, (refl, h)) }

no_run : (b : Bool) → (b && false) ≡ false
no_run true = refl
no_run false = refl

closes : Joins (next closing ∷ [])
closes = record { joined = λ r rest h. (no_run r, anywhere false rest h) }

-- ---- instructions

a_type : (t : ValType) → Joins (type_item t ∷ [])
a_type I32 = behind (word (codes "i32"))
a_type I64 = behind (word (codes "i64"))

types : (ts : List ValType) → Joins (map type_item ts)
types [] = nothing
types (t ∷ ts) = a_type t ⊕ types ts

numbers : (ns : List ℕ) → Joins (number_items ns)
numbers [] = nothing
numbers (n ∷ ns) = behind (number n) ⊕ numbers ns

type_use : (n : ℕ) → Joins (type_use_items n)
type_use n = opens (codes "type") ⊕ behind (number n) ⊕ closes

block_type : (t : BlockType) → Joins (block_items t)
block_type block_types.Empty = nothing
block_type (block_types.Value t) = opens (codes "result") ⊕ a_type t ⊕ closes
block_type (block_types.Index n) = type_use n

rest_of : (i : Instr) → Joins (instr_rest i)
rest_of (instrs.Simple op) = nothing
rest_of (instrs.Index op n) = behind (number n)
rest_of (instrs.Mem op arg) = some (arg.offset == 0) (behind _) ⊕ some (arg.align == (memory op).alignment) (behind _)
rest_of (instrs.BrTable default labels) = numbers labels ⊕ behind (number default)
rest_of (instrs.CallIndirect n) = type_use n
rest_of (instrs.I32Const z) = behind _
rest_of (instrs.I64Const z) = behind _

module _ (put : Printed → Item) (first : (p : Printed) → Joins (put p ∷ [])) where
  marked : (m : Mark Instr BlockType) → Joins (mark_items put m)
  marked (plain i) = first _ ⊕ rest_of i
  marked (begin r t) = first _ ⊕ block_type t
  marked (begin_if t) = first _ ⊕ block_type t
  marked otherwise = first _
  marked close = first _

body : (code : Code Instr BlockType) → Joins (body_items code)
body code = all (mark_items (λ p. below 4 p)) (marked (λ p. below 4 p) (on_line 4)) (flatten code)

expr : (code : Code Instr BlockType) → Joins (expr_items code)
expr code = all (mark_items (λ p. after p)) (marked (λ p. after p) behind) (flatten code)

-- ---- fields

values : (w : List ℕ) (ts : List ValType) → Joins (values_items w ts)
values w [] = nothing
values w (t ∷ ts) = opens w ⊕ a_type t ⊕ types ts ⊕ closes

a_func_type : (t : FuncType) → Joins (type_items t)
a_func_type t =
    field (codes "type") ⊕ opens (codes "func") ⊕ values (codes "param") t.params ⊕ values (codes "result") t.results
    ⊕ closes ⊕ closes

max : (n : Option ℕ) → Joins (max_items n)
max None = nothing
max (Some n) = behind (number n)

limits : (l : Limits) → Joins (limits_items l)
limits l = behind (number l.min) ⊕ max l.max

global_type : (m : Bool) (t : ValType) → Joins (global_type_items m t)
global_type false t = a_type t
global_type true t = opens (codes "mut") ⊕ a_type t ⊕ closes

desc : (d : Desc) → Joins (desc_items d)
desc (descs.Func index) = opens (codes "func") ⊕ type_use index ⊕ closes
desc (descs.Table l) = opens (codes "table") ⊕ limits l ⊕ behind (word (codes "funcref")) ⊕ closes
desc (descs.Memory l) = opens (codes "memory") ⊕ limits l ⊕ closes
desc (descs.Global g) = opens (codes "global") ⊕ global_type g.mutable g.ty ⊕ closes

an_import : (i : Import) → Joins (import_items i)
an_import i =
    field (codes "import") ⊕ behind (quoted i.«module») ⊕ behind (quoted i.name) ⊕ desc i.desc ⊕ closes

a_func : (f : Func) → Joins (func_items f)
a_func f = field (codes "func") ⊕ type_use f.ty ⊕ values (codes "local") f.locals ⊕ body f.body ⊕ on_line 2 closing

a_table : (l : Limits) → Joins (table_items l)
a_table l = field (codes "table") ⊕ limits l ⊕ behind (word (codes "funcref")) ⊕ closes

a_memory : (l : Limits) → Joins (memory_items l)
a_memory l = field (codes "memory") ⊕ limits l ⊕ closes

a_global : (g : Global) → Joins (global_items g)
a_global g = field (codes "global") ⊕ global_type g.ty.mutable g.ty.ty ⊕ expr g.init ⊕ closes

an_export : (e : Export) → Joins (export_items e)
an_export e =
    field (codes "export") ⊕ behind (quoted e.name) ⊕ opens _ ⊕ behind (number e.index) ⊕ closes ⊕ closes

a_start : (n : Option ℕ) → Joins (start_items n)
a_start None = nothing
a_start (Some n) = field (codes "start") ⊕ behind (number n) ⊕ closes

a_place : (code : Code Instr BlockType) → Joins (place_items code)
a_place code = opens (codes "offset") ⊕ expr code ⊕ closes

an_elem : (e : Elem) → Joins (elem_items e)
an_elem e = field (codes "elem") ⊕ behind (number e.table) ⊕ a_place e.offset ⊕ numbers e.funcs ⊕ closes

a_data : (d : Data) → Joins (data_items d)
a_data d = field (codes "data") ⊕ behind (number d.memory) ⊕ a_place d.offset ⊕ behind (quoted d.bytes) ⊕ closes

fields : (m : Module) → Joins (field_items m)
fields m =
    all type_items a_func_type m.types ⊕ all import_items an_import m.imports ⊕ all func_items a_func m.funcs
    ⊕ all table_items a_table m.tables ⊕ all memory_items a_memory m.mems ⊕ all global_items a_global m.globals
    ⊕ all export_items an_export m.exports ⊕ a_start m.start ⊕ all elem_items an_elem m.elems ⊕ all data_items a_data
    m.datas

pub AreApart-layout : (m : Module) → AreApart false (layout m)
AreApart-layout m = (refl, (refl, (fields m).joined true (below 0 closing ∷ []) (tt, tt)))
