-- A text says no more than it has bytes.
use Rattle.std.proofs.Common.{◌≡◌, ℕ, suc, ◌+◌, ◌≤◌, Bool, true, false, List, [], ◌∷◌, length}
use Rattle.std.proofs.Common.{Option, Some, None}
use Rattle.std.proofs.Common.{refl, arith}
use Rattle.std.specs.Prelude.{sum_by}
use Rattle.std.proofs.lemmas.List.{length-append}
use Rattle.std.proofs.lemmas.List.Sums.{sum_by-append, sum_by-cons}
use Rattle.wc_syntax.specs.declared.kind.Kind.{Kind}
use Rattle.wc_syntax.specs.declared.kind.Kind.TheVariants as kind
use Rattle.wc_syntax.specs.declared.role.Role.{Role}
use Rattle.wc_syntax.specs.declared.role.Role.TheVariants as role
use Rattle.wc_symbols.specs.declared.symbol.Value.{Value}
use Rattle.wc_symbols.specs.declared.symbol.Value.TheVariants.{ValType}
use Rattle.wc_ast.specs.declared.export.ExportKind.{ExportKind}
use Rattle.wc_ast.specs.declared.export.ExportKind.TheVariants as export
use Rattle.wc_ast.specs.declared.limits.Limits.{Limits}
use Rattle.wc_ast.specs.declared.limits.GlobalType.{GlobalType}
use Rattle.wc_surface.specs.declared.field.Field.{Field}
use Rattle.wc_surface.specs.declared.field.ImportNames.{ImportNames}
use Rattle.wc_surface.specs.Standard.Sizes.{field_size, inline_size, import_size, func_size, global_size}
use Rattle.wc_surface.specs.Standard.Sizes.{table_inline, memory_inline}
use Rattle.wc_surface.specs.Standard.WrittenLocals.{local}
use Rattle.wc_parse_code.specs.declared.use_draft.UseDraft.{UseDraft}
use Rattle.wc_parse_code.specs.declared.word.Word.{Word}
use Rattle.wc_parse_code.specs.Drafting.Sizes.{said_size}
use Rattle.wc_parse_code.specs.Drafting.Words.{index_of}
use Rattle.wc_parse_code.proofs.SizeLemmas.{take_use-size, take-size, ended-size}
use Rattle.wc_parse_field.specs.declared.locals_draft.LocalsDraft.{LocalsDraft}
use Rattle.wc_parse_field.specs.declared.contents.Contents.{Contents}
use Rattle.wc_parse_field.specs.declared.code_draft.CodeDraft.{CodeDraft}
use Rattle.wc_parse_field.specs.declared.field_draft.FieldDraft.{FieldDraft}
use Rattle.wc_parse_field.specs.Drafting.Fields.{begun, take_string, take_word, take_part, with_use_part, with_local}
use Rattle.wc_parse_field.specs.Drafting.Finished.{finished_by, finished, asked, func_by, table_by, memory_by}
use Rattle.wc_parse_field.specs.Drafting.Finished.{global_by, import_by}
use Rattle.wc_parse.specs.declared.text_draft.TextDraft.{TextDraft}
use Rattle.wc_parse.specs.Kept.Texts.{Item, nothing, take_by, take_item, take_items}

-- a field of its own word counts itself; the field of no word, which no text has, is counted at its end
abbrev head_size : Kind → ℕ
head_size kind.TypeWord = 1
head_size kind.ImportWord = 1
head_size kind.FuncWord = 1
head_size kind.TableWord = 1
head_size kind.MemoryWord = 1
head_size kind.GlobalWord = 1
head_size kind.ExportWord = 1
head_size kind.ElemWord = 1
head_size kind.DataWord = 1
head_size _ = 0

-- what a field says so far
abbrev part_size : FieldDraft → ℕ
part_size d = length d.ty.params + length d.locals.locals + said_size d.code.body
    + (length d.contents.elements + length d.contents.bytes)

abbrev draft_size : FieldDraft → ℕ
draft_size d = head_size d.kind + part_size d

abbrev pub whole_size : Field → ℕ
whole_size f = field_size f + inline_size f

-- what a text says so far
abbrev text_size : TextDraft → ℕ
text_size d = sum_by whole_size d.fields + draft_size d.field

-- ---- a field at its end

import-size : (e : ExportKind) (u : UseDraft) (l : Limits) (g : GlobalType)
    → import_size (import_by e u l g) ≤ suc (length u.params)
import-size export.Func u l g = omega arith
import-size export.Table u l g = omega arith
import-size export.Memory u l g = omega arith
import-size export.Global u l g = omega arith

func-size : (o : Option ImportNames) (l : LocalsDraft) (c : CodeDraft)
    → func_size (func_by o l c) ≤ length l.locals + said_size c.body
func-size (Some n) l c = omega arith
func-size None l c = omega (arith, ended-size c.body)

global-size : (o : Option ImportNames) (c : CodeDraft) → global_size (global_by o c) ≤ said_size c.body
global-size (Some n) c = omega arith
global-size None c = omega (arith, ended-size c.body)

table-size : (o : Option ImportNames) (b : Bool) (l : Limits) (c : Contents) → c.inside ≡ b
    → table_inline (table_by o l c) ≤ length c.elements
table-size (Some n) b l c e = omega arith
table-size None true l c e = rw e (omega arith)
table-size None false l c e = rw e (omega arith)

memory-size : (o : Option ImportNames) (b : Bool) (l : Limits) (c : Contents) → c.inside ≡ b
    → memory_inline (memory_by o l c) ≤ length c.bytes
memory-size (Some n) b l c e = omega arith
memory-size None true l c e = rw e (omega arith)
memory-size None false l c e = rw e (omega arith)

finished-size : (k : Kind) (d : FieldDraft) → whole_size (finished_by k d) ≤ head_size k + part_size d + 1
finished-size kind.TypeWord d = omega arith
finished-size kind.ImportWord d = omega (arith, import-size d.description d.ty d.limits d.global)
finished-size kind.FuncWord d = omega (arith, func-size (asked d.names.imported d.names) d.locals d.code)
finished-size kind.TableWord d =
    omega (arith, table-size (asked d.names.imported d.names) d.contents.inside d.limits d.contents refl)
finished-size kind.MemoryWord d =
    omega (arith, memory-size (asked d.names.imported d.names) d.contents.inside d.limits d.contents refl)
finished-size kind.GlobalWord d = omega (arith, global-size (asked d.names.imported d.names) d.code)
finished-size kind.ExportWord d = omega arith
finished-size kind.ElemWord d = omega (arith, ended-size d.code.body)
finished-size kind.DataWord d = omega (arith, ended-size d.code.body)
finished-size _ d = omega arith

-- ---- one more part of a field

string-size : (d : FieldDraft) (r : Role) (bytes : List ℕ)
    → draft_size (take_string d r bytes) ≤ draft_size d + length bytes
string-size d role.ExportName bytes = omega arith
string-size d role.ModuleName bytes = omega arith
string-size d role.ItemName bytes = omega arith
string-size d role.Bytes bytes = omega (arith, length-append d.contents.bytes bytes)
string-size d _ bytes = omega arith

use-size : (b : Bool) (d : FieldDraft) (r : Role) (w : Word) → draft_size (with_use_part b d r w) ≤ draft_size d + 1
use-size true d r w = omega (arith, take-size d.code.body r w)
use-size false d r w = omega (arith, take_use-size d.ty r w)

local-size : (v : Value) (token : ℕ) (l : LocalsDraft) → length (with_local v token l).locals ≤ length l.locals + 1
local-size (ValType t) token l = omega (arith, length-append l.locals (local l.id t token ∷ []))
local-size _ token l = omega arith

part-size : (d : FieldDraft) (r : Role) (w : Word) → draft_size (take_part d r w) ≤ draft_size d + 1
part-size d role.LocalType w = omega (arith, local-size w.symbol.value w.token d.locals)
part-size d role.Element w = omega (arith, length-append d.contents.elements (index_of w ∷ []))
part-size d _ w = omega arith

word-size : (d : FieldDraft) (r : Role) (w : Word) → draft_size (take_word d r w) ≤ draft_size d + 1
word-size d role.Plain w = omega (arith, take-size d.code.body role.Plain w)
word-size d role.HeldPlain w = omega (arith, take-size d.code.body role.HeldPlain w)
word-size d role.HeldEnd w = omega (arith, take-size d.code.body role.HeldEnd w)
word-size d role.Begin w = omega (arith, take-size d.code.body role.Begin w)
word-size d role.HeldBegin w = omega (arith, take-size d.code.body role.HeldBegin w)
word-size d role.Then w = omega (arith, take-size d.code.body role.Then w)
word-size d role.Else w = omega (arith, take-size d.code.body role.Else w)
word-size d role.End w = omega (arith, take-size d.code.body role.End w)
word-size d role.Label w = omega (arith, take-size d.code.body role.Label w)
word-size d role.EndLabel w = omega (arith, take-size d.code.body role.EndLabel w)
word-size d role.Index w = omega (arith, take-size d.code.body role.Index w)
word-size d role.MemOffset w = omega (arith, take-size d.code.body role.MemOffset w)
word-size d role.MemAlign w = omega (arith, take-size d.code.body role.MemAlign w)
word-size d role.Literal w = omega (arith, take-size d.code.body role.Literal w)
word-size d role.TypeIndex w = use-size d.code.begun d role.TypeIndex w
word-size d role.ParamId w = use-size d.code.begun d role.ParamId w
word-size d role.ParamType w = use-size d.code.begun d role.ParamType w
word-size d role.ResultType w = use-size d.code.begun d role.ResultType w
word-size d role.LocalType w = part-size d role.LocalType w
word-size d role.Element w = part-size d role.Element w
word-size d _ w = omega arith

-- ---- one more token of a text

begun-size : (k : Kind) (token : ℕ) (d : FieldDraft) → draft_size (begun k token d) ≤ draft_size d + 1
begun-size kind.ImportWord token d = omega arith
begun-size _ token d = omega arith

by-size : (r : Role) (w : Word) (bytes : List ℕ) (d : TextDraft)
    → text_size (take_by r w bytes d) ≤ text_size d + suc (length bytes)
by-size role.Field w bytes d = omega (arith, begun-size w.symbol.kind w.token d.field)
by-size role.FieldEnd w bytes d =
    omega (arith, sum_by-append whole_size d.fields (finished d.field ∷ []), finished-size d.field.kind d.field)
by-size role.ExportName w bytes d = omega (arith, string-size d.field role.ExportName bytes)
by-size role.ModuleName w bytes d = omega (arith, string-size d.field role.ModuleName bytes)
by-size role.ItemName w bytes d = omega (arith, string-size d.field role.ItemName bytes)
by-size role.Bytes w bytes d = omega (arith, string-size d.field role.Bytes bytes)
by-size role.Element w bytes d = omega (arith, part-size d.field role.Element w)
by-size role.LocalType w bytes d = omega (arith, part-size d.field role.LocalType w)
by-size role.Plain w bytes d = omega (arith, word-size d.field role.Plain w)
by-size role.HeldPlain w bytes d = omega (arith, word-size d.field role.HeldPlain w)
by-size role.HeldEnd w bytes d = omega (arith, word-size d.field role.HeldEnd w)
by-size role.Begin w bytes d = omega (arith, word-size d.field role.Begin w)
by-size role.HeldBegin w bytes d = omega (arith, word-size d.field role.HeldBegin w)
by-size role.Then w bytes d = omega (arith, word-size d.field role.Then w)
by-size role.Else w bytes d = omega (arith, word-size d.field role.Else w)
by-size role.End w bytes d = omega (arith, word-size d.field role.End w)
by-size role.Label w bytes d = omega (arith, word-size d.field role.Label w)
by-size role.EndLabel w bytes d = omega (arith, word-size d.field role.EndLabel w)
by-size role.Index w bytes d = omega (arith, word-size d.field role.Index w)
by-size role.MemOffset w bytes d = omega (arith, word-size d.field role.MemOffset w)
by-size role.MemAlign w bytes d = omega (arith, word-size d.field role.MemAlign w)
by-size role.Literal w bytes d = omega (arith, word-size d.field role.Literal w)
by-size role.TypeIndex w bytes d = omega (arith, word-size d.field role.TypeIndex w)
by-size role.ParamId w bytes d = omega (arith, word-size d.field role.ParamId w)
by-size role.ParamType w bytes d = omega (arith, word-size d.field role.ParamType w)
by-size role.ResultType w bytes d = omega (arith, word-size d.field role.ResultType w)
by-size _ w bytes d = omega arith

-- what a kept token weighs
abbrev pub item_size : Item → ℕ
item_size i = suc (length i.bytes)

items-size : (d : TextDraft) (is : List Item) → text_size (take_items d is) ≤ text_size d + sum_by item_size is
items-size d [] = omega arith
items-size d (i ∷ is) =
    omega (arith, items-size (take_item d i) is, by-size i.role i.word i.bytes d, sum_by-cons item_size i is)

pub said-size : (is : List Item) → sum_by whole_size (take_items nothing is).fields ≤ sum_by item_size is
said-size is = omega (arith, items-size nothing is)
