-- The tokens of the layout are those of the signs.
use Rattle.std.proofs.Common.{◌≡◌, ℕ, ◌==◌, Bool, true, false, List, [], ◌∷◌, ◌++◌, map, refl, sym, ap, subst, ◌∙◌}
use Rattle.std.proofs.Common.{append_assoc, Option, Some, None}
use Rattle.std.specs.Prelude.{if◌then◌else◌}
use Rattle.std.specs.List.{flat_map}
use Rattle.std.proofs.lemmas.List.{map-append}
use Rattle.wc_ops.specs.declared.val_type.ValType.{ValType as ValueType}
use Rattle.wc_ops.specs.declared.val_type.ValType.TheVariants.{I32, I64}
use Rattle.wc_ops.specs.Standard.Opcodes.{memory}
use Rattle.wc_ast.specs.declared.func_type.FuncType.{FuncType}
use Rattle.wc_body.specs.declared.instr.BlockType.{BlockType}
use Rattle.wc_body.specs.declared.instr.BlockType.TheVariants as block_types
use Rattle.wc_body.specs.declared.instr.Instr.{Instr}
use Rattle.wc_body.specs.declared.instr.Instr.TheVariants as instrs
use Rattle.wc_body.specs.Standard.Nested.{block, loop, Code, Mark, plain, begin, begin_if, otherwise, close, flatten}
use Rattle.wc_ast.specs.declared.limits.Limits.{Limits}
use Rattle.wc_ast.specs.declared.import.Desc.{Desc}
use Rattle.wc_ast.specs.declared.import.Desc.TheVariants as descs
use Rattle.wc_ast.specs.declared.import.Import.{Import}
use Rattle.wc_ast.specs.declared.func.Func.{Func}
use Rattle.wc_ast.specs.declared.func.Global.{Global}
use Rattle.wc_ast.specs.declared.export.ExportKind.{ExportKind}
use Rattle.wc_ast.specs.declared.export.ExportKind.TheVariants as export_kinds
use Rattle.wc_ast.specs.declared.export.Export.{Export}
use Rattle.wc_ast.specs.declared.segment.Elem.{Elem}
use Rattle.wc_ast.specs.declared.segment.Data.{Data}
use Rattle.wc_ast.specs.declared.module.Module.{Module}
use Rattle.wc_syntax.specs.declared.kind.Kind.{Kind}
use Rattle.wc_syntax.specs.declared.kind.Kind.TheVariants as kind
use Rattle.wc_syntax.specs.declared.role.Role.{Role}
use Rattle.wc_syntax.specs.declared.role.Role.TheVariants as role
use Rattle.wc_print.specs.Standard.Printed.{Printed, word, Item, after, below, token_of}
use Rattle.wc_print.specs.Standard.Lines.{type_item, type_use_items, block_items, number_items}
use Rattle.wc_print.specs.Standard.Lines.{mark_items, body_items, expr_items}
use Rattle.wc_print.specs.Standard.Layout.{values_items, type_items, max_items, limits_items, global_type_items}
use Rattle.wc_print.specs.Standard.Layout.{desc_items, import_items, func_items, table_items, memory_items}
use Rattle.wc_print.specs.Standard.Layout.{global_items, kind_word, export_items, start_items, place_items, elem_items}
use Rattle.wc_print.specs.Standard.Layout.{data_items, field_items, layout}
use Rattle.wc_readback.specs.Grammar.Signs.{Sign, opens, closes, ends, key, key_word, type_word, type_sign}
use Rattle.wc_readback.specs.Grammar.InstructionSigns.{values_signs, type_use_signs, block_signs, naturals, mark_signs}
use Rattle.wc_readback.specs.Grammar.InstructionSigns.{code_signs}
use Rattle.wc_readback.specs.Grammar.FieldSigns.{type_signs, max_signs, limits_signs, globaltype_signs, desc_signs}
use Rattle.wc_readback.specs.Grammar.FieldSigns.{import_signs, func_signs, table_signs, memory_signs, global_signs}
use Rattle.wc_readback.specs.Grammar.FieldSigns.{space_word, export_signs, start_signs, place_signs, elem_signs}
use Rattle.wc_readback.specs.Grammar.FieldSigns.{data_signs, field_signs, signs}

abbrev pub tokens_of : List Sign → List Printed
tokens_of ss = map (λ s. s.token) ss

-- the items and the signs have the same tokens
pub record Same (items : List Item) (ss : List Sign) : Type 0 where
  pub same : map token_of items ≡ tokens_of ss

none : Same [] []
none = record { same = refl }

-- one token, and then others
step : {i : Item} {s : Sign} {items : List Item} {ss : List Sign} → token_of i ≡ s.token → Same items ss
    → Same (i ∷ items) (s ∷ ss)
step {i} {s} {items} {ss} e h = record {
  same = ap (λ (p : Printed). p ∷ map token_of items) e ∙ ap (λ (ps : List Printed). s.token ∷ ps) h.same;
}

both : {is js : List Item} {ss ts : List Sign} → Same is ss → Same js ts → Same (is ++ js) (ss ++ ts)
both {is} {js} {ss} {ts} h k = record {
  same = map-append token_of is js
      ∙ ap (λ (ps : List Printed). ps ++ map token_of js) h.same
      ∙ ap (λ (ps : List Printed). tokens_of ss ++ ps) k.same
      ∙ sym (map-append (λ s. s.token) ss ts);
}

regroup : {is : List Item} {ss ts : List Sign} → ss ≡ ts → Same is ss → Same is ts
regroup {is} e h = subst (λ (x : List Sign). Same is x) e h

each : {A : Type 0} (f : A → List Item) (w : A → List Sign) → ((x : A) → Same (f x) (w x)) → (xs : List A)
    → Same (flat_map f xs) (flat_map w xs)
each f w h [] = none
each f w h (x ∷ xs) = both (h x) (each f w h xs)

-- ---- types and instructions

value : (r : Role) (t : ValueType) → token_of (type_item t) ≡ word (type_word t)
value r I32 = refl
value r I64 = refl

values : (r : Role) (ts : List ValueType) → Same (map type_item ts) (map (type_sign r) ts)
values r [] = none
values r (t ∷ ts) = step (value r t) (values r ts)

listed : (k : Kind) (r : Role) (ts : List ValueType) → Same (values_items (key_word k) ts) (values_signs k r ts)
listed k r [] = none
listed k r (t ∷ ts) = step refl (step refl (both (values r (t ∷ ts)) (step refl none)))

type-use : (n : ℕ) → Same (type_use_items n) (type_use_signs n)
type-use n = record { same = refl }

heads : (t : BlockType) → Same (block_items t) (block_signs t)
heads block_types.Empty = none
heads (block_types.Value t) = step refl (step refl (step (value role.ResultType t) (step refl none)))
heads (block_types.Index n) = type-use n

by-test : (b : Bool) (i : Item) (s : Sign) → token_of i ≡ s.token
    → Same (if b then [] else i ∷ []) (if b then [] else s ∷ [])
by-test true i s e = none
by-test false i s e = step e none

numbers : (r : Role) (ns : List ℕ) → Same (number_items ns) (naturals r ns)
numbers r [] = none
numbers r (n ∷ ns) = step refl (numbers r ns)

module _ (put : Printed → Item) (is-put : (p : Printed) → token_of (put p) ≡ p) where
  plains : (i : Instr) → Same (mark_items put (plain i)) (mark_signs (plain i))
  plains (instrs.Simple o) = step (is-put _) none
  plains (instrs.Index o n) = step (is-put _) (step refl none)
  plains (instrs.Mem o arg) =
      step (is-put _) (both (by-test (arg.offset == 0) _ _ refl) (by-test (arg.align == (memory o).alignment) _ _ refl))
  plains (instrs.BrTable n ns) = step (is-put _) (both (numbers role.Index ns) (step refl none))
  plains (instrs.CallIndirect n) = step (is-put _) (type-use n)
  plains (instrs.I32Const z) = step (is-put _) (step refl none)
  plains (instrs.I64Const z) = step (is-put _) (step refl none)

  mark : (m : Mark Instr BlockType) → Same (mark_items put m) (mark_signs m)
  mark (plain i) = plains i
  mark (begin block t) = step (is-put _) (heads t)
  mark (begin loop t) = step (is-put _) (heads t)
  mark (begin_if t) = step (is-put _) (heads t)
  mark otherwise = step (is-put _) none
  mark close = step (is-put _) none

body : (code : Code Instr BlockType) → Same (body_items code) (code_signs code)
body code = each _ mark_signs (mark (λ p. below 4 p) (λ p. refl)) (flatten code)

expr : (code : Code Instr BlockType) → Same (expr_items code) (code_signs code)
expr code = each _ mark_signs (mark (λ p. after p) (λ p. refl)) (flatten code)

-- ---- fields

regroup-3 : (a b c d : List Sign) → a ++ (b ++ (c ++ d)) ≡ (a ++ (b ++ c)) ++ d
regroup-3 a b c d = simp append_assoc refl

regroup-2 : (a b c : List Sign) → a ++ (b ++ c) ≡ (a ++ b) ++ c
regroup-2 a b c = sym (append_assoc a b c)

types : (t : FuncType) → Same (type_items t) (type_signs t)
types t =
    step refl (step refl (step refl (step refl
    (regroup (regroup-3 _ _ (closes ∷ []) (ends ∷ []))
    (both (listed kind.ParamWord role.ParamType t.params)
    (both (listed kind.ResultWord role.ResultType t.results) (step refl (step refl none))))))))

greatest : (n : Option ℕ) → Same (max_items n) (max_signs n)
greatest None = none
greatest (Some n) = step refl none

limits : (l : Limits) → Same (limits_items l) (limits_signs l)
limits l = step refl (greatest l.max)

global-type : (mutable : Bool) (t : ValueType) → Same (global_type_items mutable t) (globaltype_signs mutable t)
global-type false t = step (value role.GlobalType t) none
global-type true t = step refl (step refl (step (value role.GlobalType t) (step refl none)))

-- `1 funcref`, and then others
table-type : {items : List Item} {ss : List Sign} (l : Limits) (i : Item)
    → token_of i ≡ word (key_word kind.FuncrefWord)
    → Same items ss → Same (limits_items l ++ (i ∷ items)) ((limits_signs l ++ (key kind.FuncrefWord ∷ [])) ++ ss)
table-type {items} {ss} l i e h =
    regroup (regroup-2 (limits_signs l) (key kind.FuncrefWord ∷ []) ss) (both (limits l) (step e h))

desc : (t : Desc) → Same (desc_items t) (opens ∷ (desc_signs t ++ (closes ∷ [])))
desc (descs.Func n) = step refl (step refl (both (type-use n) (step refl none)))
desc (descs.Table l) = step refl (step refl (table-type l _ refl (step refl none)))
desc (descs.Memory l) = step refl (step refl (both (limits l) (step refl none)))
desc (descs.Global g) = step refl (step refl (both (global-type g.mutable g.ty) (step refl none)))

imports : (i : Import) → Same (import_items i) (import_signs i)
imports i =
    step refl (step refl (step refl (step refl
    (regroup (append_assoc (opens ∷ desc_signs i.desc) (closes ∷ []) (ends ∷ []))
    (both (desc i.desc) (step refl none))))))

funcs : (f : Func) → Same (func_items f) (func_signs f)
funcs f =
    step refl (step refl
    (regroup (regroup-3 (type_use_signs f.ty) (values_signs kind.LocalWord role.LocalType f.locals) (code_signs f.body)
    (ends ∷ []))
    (both (type-use f.ty) (both (listed kind.LocalWord role.LocalType f.locals)
    (both (body f.body) (step refl none))))))

tables : (l : Limits) → Same (table_items l) (table_signs l)
tables l = step refl (step refl (table-type l _ refl (step refl none)))

memories : (l : Limits) → Same (memory_items l) (memory_signs l)
memories l = step refl (step refl (both (limits l) (step refl none)))

globals : (g : Global) → Same (global_items g) (global_signs g)
globals g =
    step refl (step refl
    (regroup (regroup-2 (globaltype_signs g.ty.mutable g.ty.ty) (code_signs g.init) (ends ∷ []))
    (both (global-type g.ty.mutable g.ty.ty) (both (expr g.init) (step refl none)))))

space : (k : ExportKind) → word (kind_word k) ≡ word (key_word (space_word k))
space export_kinds.Func = refl
space export_kinds.Table = refl
space export_kinds.Memory = refl
space export_kinds.Global = refl

exports : (e : Export) → Same (export_items e) (export_signs e)
exports e =
    step refl (step refl (step refl (step refl (step (space e.kind)
    (step refl (step refl (step refl none)))))))

start : (n : Option ℕ) → Same (start_items n) (start_signs n)
start None = none
start (Some n) = record { same = refl }

place : (code : Code Instr BlockType) → Same (place_items code) (place_signs code)
place code = step refl (step refl (both (expr code) (step refl none)))

elems : (e : Elem) → Same (elem_items e) (elem_signs e)
elems e =
    step refl (step refl (step refl
    (both (place e.offset) (both (numbers role.Element e.funcs) (step refl none)))))

datas : (t : Data) → Same (data_items t) (data_signs t)
datas t = step refl (step refl (step refl (both (place t.offset) (step refl (step refl none)))))

fields : (m : Module) → Same (field_items m) (field_signs m)
fields m =
    both (each type_items type_signs types m.types)
    (both (each import_items import_signs imports m.imports)
    (both (each func_items func_signs funcs m.funcs)
    (both (each table_items table_signs tables m.tables)
    (both (each memory_items memory_signs memories m.mems)
    (both (each global_items global_signs globals m.globals)
    (both (each export_items export_signs exports m.exports)
    (both (start m.start)
    (both (each elem_items elem_signs elems m.elems)
    (each data_items data_signs datas m.datas)))))))))

pub whole : (m : Module) → Same (layout m) (signs m)
whole m = step refl (step refl (both (fields m) (step refl none)))
