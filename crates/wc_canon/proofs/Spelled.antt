-- What is printed of a module whose numbers have the widths of their types can be read back.
use Rattle.std.proofs.Common.{◌≡◌, ℕ, zero, suc, ◌<◌, ◌≤◌, ◌-◌, ◌^◌, ◌==◌, ℤ, pos, negsuc, Bool, true, false}
use Rattle.std.proofs.Common.{Option, Some, None, List, [], ◌∷◌, ◌++◌, map, refl, codes, IsUtf8, arith, lit<, ltb→lt}
use Rattle.std.specs.Prelude.{if◌then◌else◌}
use Rattle.std.specs.List.{AllByRecursion, flat_map}
use Rattle.std.proofs.Math.Dec.{leb→le}
use lib.Signed.{mag}
use Rattle.wc_leb128.specs.Standard.Shortest.{HoldsSigned}
use Rattle.wc_ops.specs.declared.val_type.ValType.{ValType}
use Rattle.wc_ops.specs.Standard.Opcodes.{memory}
use Rattle.wc_body.specs.declared.instr.BlockType.{BlockType}
use Rattle.wc_body.specs.declared.instr.BlockType.TheVariants as block_types
use Rattle.wc_body.specs.declared.instr.Instr.{Instr}
use Rattle.wc_body.specs.declared.instr.Instr.TheVariants as instrs
use Rattle.wc_body.specs.Standard.Nested.{Region, block, loop, Code, empty, op, region, choice, else_mark, flat}
use Rattle.wc_body.specs.Standard.Nested.{Mark, plain, begin, begin_if, otherwise, close, flatten}
use Rattle.wc_body.specs.Standard.Throughout.{Throughout}
use Rattle.wc_body.specs.Standard.ValueBytes.{Fits32}
use Rattle.wc_body.specs.Standard.InstructionBytes.{FitsInstr, FitsBlockType, FitsExpr}
use Rattle.wc_ast.specs.declared.func_type.FuncType.{FuncType}
use Rattle.wc_ast.specs.declared.limits.Limits.{Limits}
use Rattle.wc_ast.specs.declared.import.Desc.{Desc}
use Rattle.wc_ast.specs.declared.import.Desc.TheVariants as descs
use Rattle.wc_ast.specs.declared.import.Import.{Import}
use Rattle.wc_ast.specs.declared.func.Func.{Func}
use Rattle.wc_ast.specs.declared.func.Global.{Global}
use Rattle.wc_ast.specs.declared.export.Export.{Export}
use Rattle.wc_ast.specs.declared.segment.Elem.{Elem}
use Rattle.wc_ast.specs.declared.segment.Data.{Data}
use Rattle.wc_ast.specs.declared.module.Module.{Module}
use Rattle.wc_tokens.specs.Standard.Lexemes.{is_idchar}
use Rattle.wc_print.specs.Standard.Printed.{Printed, opening, closing, word, number, integer, part, quoted}
use Rattle.wc_print.specs.Standard.Printed.{Item, next, after, below}
use Rattle.wc_print.specs.Standard.Printable.{is_word, IsSpelled, AreSpelled, IsPrintable}
use Rattle.wc_print.specs.Standard.Lines.{type_item, type_use_items, block_items, number_items, bytes_of, instr_word}
use Rattle.wc_print.specs.Standard.Lines.{instr_rest, region_word, mark_items, body_items, expr_items}
use Rattle.wc_print.specs.Standard.Layout.{values_items, type_items, max_items, limits_items, global_type_items}
use Rattle.wc_print.specs.Standard.Layout.{desc_items, import_items, func_items, table_items, memory_items}
use Rattle.wc_print.specs.Standard.Layout.{global_items, kind_word, export_items, start_items, place_items, elem_items}
use Rattle.wc_print.specs.Standard.Layout.{data_items, field_items, layout}
use Rattle.wc_print.proofs.Reading.Naming.{simple-word, index-word, memory-word, kind-word, type-spelled}
use Rattle.wc_print.proofs.Writing.Putting.{spelled-append}
use Rattle.wc_print.proofs.Writing.Whole.{layout-printable}
use Rattle.wc_readback.specs.Grammar.Fitting.{FitsOptional, FitsLimits, FitsDesc, FitsImport, FitsFunc, FitsGlobal}
use Rattle.wc_readback.specs.Grammar.Fitting.{FitsExport, FitsElem, FitsData, Fits}
use Rattle.wc_ast.proofs.Utf8Bytes.{utf8-bytes}

-- each of the items can be read back
record Spells (is : List Item) : Type 0 where
  spelled : AreSpelled is

nothing : Spells []
nothing = record { spelled = tt }

infixr 4 ◌⊕◌
◌⊕◌ : {a b : List Item} → Spells a → Spells b → Spells (a ++ b)
◌⊕◌ {a = a} {b = b} j k = record { spelled = spelled-append a b j.spelled k.spelled }

each : {A : Type 0} (F : A → Type 0) (f : A → List Item) → ((x : A) → F x → Spells (f x)) → (xs : List A)
    → AllByRecursion F xs → Spells (flat_map f xs)
each F f spell [] h = nothing
each F f spell (x ∷ xs) h = spell x h.0 ⊕ each F f spell xs h.1

all : {A : Type 0} (f : A → List Item) → ((x : A) → Spells (f x)) → (xs : List A) → Spells (flat_map f xs)
all f spell [] = nothing
all f spell (x ∷ xs) = spell x ⊕ all f spell xs

some : (b : Bool) {is : List Item} → Spells is → Spells (if b then [] else is)
some true j = nothing
some false j = j

behind : (p : Printed) → IsSpelled p → Spells (after p ∷ [])
behind p h = record { spelled = (h, tt) }

on_line : (n : ℕ) (p : Printed) → IsSpelled p → Spells (below n p ∷ [])
on_line n p h = record { spelled = (h, tt) }

opens : (w : List ℕ) → is_word w ≡ true → Spells (after opening ∷ next (word w) ∷ [])
opens w h = record { spelled = (tt, (h, tt)) }

field : (w : List ℕ) → is_word w ≡ true → Spells (below 2 opening ∷ next (word w) ∷ [])
field w h = record { spelled = (tt, (h, tt)) }

closes : Spells (next closing ∷ [])
closes = record { spelled = (tt, tt) }

-- ---- numbers and strings

wide : (n : ℕ) → Fits32 n → n < 2 ^ 64
wide n h = let lt : n < 2 ^ 32 = h in omega (arith, lt)

natural : (n : ℕ) → Fits32 n → Spells (after (number n) ∷ [])
natural n lt = behind (number n) (wide n lt)

naturals : (ns : List ℕ) → AllByRecursion Fits32 ns → Spells (number_items ns)
naturals [] h = nothing
naturals (n ∷ ns) h = natural n h.0 ⊕ naturals ns h.1

double : (z : ℤ) → HoldsSigned 64 z → mag z < 2 ^ 63
double (pos n) h = ltb→lt n (2 ^ 63) h.1.lt
double (negsuc n) h = let le : n ≤ 2 ^ 63 - 1 = leb→le n _ h.0.le in omega (arith, le)

single : (z : ℤ) → HoldsSigned 32 z → mag z < 2 ^ 63
single (pos n) h = let lt : n < 2 ^ 31 = ltb→lt n (2 ^ 31) h.1.lt in omega (arith, lt)
single (negsuc n) h = let le : n ≤ 2 ^ 31 - 1 = leb→le n _ h.0.le in omega (arith, le)

power : (a : ℕ) → bytes_of a < 2 ^ 64
power zero = lit< tt
power (suc zero) = lit< tt
power (suc (suc zero)) = lit< tt
power (suc (suc (suc n))) = lit< tt

a_name : (name : List ℕ) → IsUtf8 name → Spells (after (quoted name) ∷ [])
a_name name u = behind (quoted name) (utf8-bytes name u)

-- ---- instructions

a_type : (t : ValType) → Spells (type_item t ∷ [])
a_type t = record { spelled = (type-spelled t, tt) }

types : (ts : List ValType) → Spells (map type_item ts)
types [] = nothing
types (t ∷ ts) = a_type t ⊕ types ts

type_use : (n : ℕ) → Fits32 n → Spells (type_use_items n)
unfolding is_idchar
type_use n lt = opens (codes "type") refl ⊕ natural n lt ⊕ closes

block_type : (t : BlockType) → FitsBlockType t → Spells (block_items t)
unfolding is_idchar
block_type block_types.Empty h = nothing
block_type (block_types.Value t) h = opens (codes "result") refl ⊕ a_type t ⊕ closes
block_type (block_types.Index n) h = type_use n h

a_word : (i : Instr) → is_word (instr_word i) ≡ true
unfolding is_idchar
a_word (instrs.Simple o) = simple-word o
a_word (instrs.Index o n) = index-word o
a_word (instrs.Mem o arg) = memory-word o
a_word (instrs.BrTable default labels) = refl
a_word (instrs.CallIndirect n) = refl
a_word (instrs.I32Const z) = refl
a_word (instrs.I64Const z) = refl

rest_of : (i : Instr) → FitsInstr i → Spells (instr_rest i)
unfolding is_idchar
rest_of (instrs.Simple o) h = nothing
rest_of (instrs.Index o n) h = natural n h
rest_of (instrs.Mem o arg) h =
    some (arg.offset == 0) (behind (part (codes "offset=") arg.offset) (refl, wide arg.offset h.1))
    ⊕ some (arg.align == (memory o).alignment)
    (behind (part (codes "align=") (bytes_of arg.align)) (refl, power arg.align))
rest_of (instrs.BrTable default labels) h = naturals labels h.0.1 ⊕ natural default h.1
rest_of (instrs.CallIndirect n) h = type_use n h
rest_of (instrs.I32Const z) h = behind (integer z) (single z h)
rest_of (instrs.I64Const z) h = behind (integer z) (double z h)

begins : (r : Region) → is_word (region_word r) ≡ true
unfolding is_idchar
begins block = refl
begins loop = refl

abbrev FitsMark : Mark Instr BlockType → Type 0
FitsMark (plain i) = FitsInstr i
FitsMark (begin r t) = FitsBlockType t
FitsMark (begin_if t) = FitsBlockType t
FitsMark otherwise = Unit {0}
FitsMark close = Unit {0}

else-fits : (code : Code Instr BlockType) (ms : List (Mark Instr BlockType)) → AllByRecursion FitsMark ms
    → AllByRecursion FitsMark (else_mark code ms)
else-fits empty ms h = h
else-fits (op i more) ms h = (tt, h)
else-fits (region r t inside more) ms h = (tt, h)
else-fits (choice t one two more) ms h = (tt, h)

flat-fits : (code : Code Instr BlockType) (ms : List (Mark Instr BlockType)) → Throughout FitsInstr FitsBlockType code
    → AllByRecursion FitsMark ms → AllByRecursion FitsMark (flat code ms)
flat-fits empty ms h k = k
flat-fits (op i more) ms h k = (h.0, flat-fits more ms h.1 k)
flat-fits (region r t inside more) ms h k =
    (h.0, flat-fits inside (close ∷ flat more ms) h.1 (tt, flat-fits more ms h.2 k))
flat-fits (choice t one two more) ms h k =
    let rest = close ∷ flat more ms in
    let other = flat-fits two rest h.2 (tt, flat-fits more ms h.3 k) in
    (h.0, flat-fits one (else_mark two (flat two rest)) h.1 (else-fits two (flat two rest) other))

module _ (put : Printed → Item) (first : (p : Printed) → IsSpelled p → Spells (put p ∷ [])) where
  marked : (m : Mark Instr BlockType) → FitsMark m → Spells (mark_items put m)
  unfolding is_idchar
  marked (plain i) h = first (word (instr_word i)) (a_word i) ⊕ rest_of i h
  marked (begin r t) h = first (word (region_word r)) (begins r) ⊕ block_type t h
  marked (begin_if t) h = first (word (codes "if")) refl ⊕ block_type t h
  marked otherwise h = first (word (codes "else")) refl
  marked close h = first (word (codes "end")) refl

body : (code : Code Instr BlockType) → FitsExpr code → Spells (body_items code)
body code h =
    each FitsMark (mark_items (λ p. below 4 p)) (marked (λ p. below 4 p) (on_line 4)) (flatten code)
    (flat-fits code [] h.0 tt)

expr : (code : Code Instr BlockType) → FitsExpr code → Spells (expr_items code)
expr code h =
    each FitsMark (mark_items (λ p. after p)) (marked (λ p. after p) behind) (flatten code) (flat-fits code [] h.0 tt)

-- ---- fields

values : (w : List ℕ) → is_word w ≡ true → (ts : List ValType) → Spells (values_items w ts)
values w h [] = nothing
values w h (t ∷ ts) = opens w h ⊕ a_type t ⊕ types ts ⊕ closes

a_func_type : (t : FuncType) → Spells (type_items t)
unfolding is_idchar
a_func_type t =
    field (codes "type") refl ⊕ opens (codes "func") refl ⊕ values (codes "param") refl t.params
    ⊕ values (codes "result") refl t.results ⊕ closes ⊕ closes

max : (n : Option ℕ) → FitsOptional n → Spells (max_items n)
max None h = nothing
max (Some n) h = natural n h

limits : (l : Limits) → FitsLimits l → Spells (limits_items l)
limits l h = natural l.min h.0 ⊕ max l.max h.1

global_type : (m : Bool) (t : ValType) → Spells (global_type_items m t)
unfolding is_idchar
global_type false t = a_type t
global_type true t = opens (codes "mut") refl ⊕ a_type t ⊕ closes

desc : (d : Desc) → FitsDesc d → Spells (desc_items d)
unfolding is_idchar
desc (descs.Func index) h = opens (codes "func") refl ⊕ type_use index h ⊕ closes
desc (descs.Table l) h = opens (codes "table") refl ⊕ limits l h ⊕ behind (word (codes "funcref")) refl ⊕ closes
desc (descs.Memory l) h = opens (codes "memory") refl ⊕ limits l h ⊕ closes
desc (descs.Global g) h = opens (codes "global") refl ⊕ global_type g.mutable g.ty ⊕ closes

an_import : (i : Import) → FitsImport i → Spells (import_items i)
unfolding is_idchar
an_import i h =
    field (codes "import") refl ⊕ a_name i.«module» h.0 ⊕ a_name i.name h.1 ⊕ desc i.desc h.2 ⊕ closes

a_func : (f : Func) → FitsFunc f → Spells (func_items f)
unfolding is_idchar
a_func f h =
    field (codes "func") refl ⊕ type_use f.ty h.0 ⊕ values (codes "local") refl f.locals ⊕ body f.body h.1
    ⊕ on_line 2 closing tt

a_table : (l : Limits) → FitsLimits l → Spells (table_items l)
unfolding is_idchar
a_table l h = field (codes "table") refl ⊕ limits l h ⊕ behind (word (codes "funcref")) refl ⊕ closes

a_memory : (l : Limits) → FitsLimits l → Spells (memory_items l)
unfolding is_idchar
a_memory l h = field (codes "memory") refl ⊕ limits l h ⊕ closes

a_global : (g : Global) → FitsGlobal g → Spells (global_items g)
unfolding is_idchar
a_global g h = field (codes "global") refl ⊕ global_type g.ty.mutable g.ty.ty ⊕ expr g.init h ⊕ closes

an_export : (e : Export) → FitsExport e → Spells (export_items e)
unfolding is_idchar
an_export e h =
    field (codes "export") refl ⊕ a_name e.name h.0 ⊕ opens (kind_word e.kind) (kind-word e.kind)
    ⊕ natural e.index h.1 ⊕ closes ⊕ closes

a_start : (n : Option ℕ) → FitsOptional n → Spells (start_items n)
unfolding is_idchar
a_start None h = nothing
a_start (Some n) h = field (codes "start") refl ⊕ natural n h ⊕ closes

a_place : (code : Code Instr BlockType) → FitsExpr code → Spells (place_items code)
unfolding is_idchar
a_place code h = opens (codes "offset") refl ⊕ expr code h ⊕ closes

an_elem : (e : Elem) → FitsElem e → Spells (elem_items e)
unfolding is_idchar
an_elem e h =
    field (codes "elem") refl ⊕ natural e.table h.0 ⊕ a_place e.offset h.1 ⊕ naturals e.funcs h.2 ⊕ closes

a_data : (d : Data) → FitsData d → Spells (data_items d)
unfolding is_idchar
a_data d h =
    field (codes "data") refl ⊕ natural d.memory h.0 ⊕ a_place d.offset h.1 ⊕ behind (quoted d.bytes) h.2 ⊕ closes

fields : (m : Module) → Fits m → Spells (field_items m)
fields m h =
    all type_items a_func_type m.types
    ⊕ each FitsImport import_items an_import m.imports h.imports
    ⊕ each FitsFunc func_items a_func m.funcs h.funcs
    ⊕ each FitsLimits table_items a_table m.tables h.tables
    ⊕ each FitsLimits memory_items a_memory m.mems h.mems
    ⊕ each FitsGlobal global_items a_global m.globals h.globals
    ⊕ each FitsExport export_items an_export m.exports h.exports
    ⊕ a_start m.start h.start
    ⊕ each FitsElem elem_items an_elem m.elems h.elems
    ⊕ each FitsData data_items a_data m.datas h.datas

pub fits-printable : (m : Module) → Fits m → IsPrintable (layout m)
fits-printable m h = layout-printable m (fields m h).spelled
