-- Short names for the steps of a derivation by the grammar: what is dropped or kept, what is not written, and for each
-- choice the part that is taken.
use Rattle.std.proofs.Common.{ℕ, suc, List, [], ◌∷◌, refl}
use Rattle.wc_syntax.specs.declared.kind.Kind.{Kind}
use Rattle.wc_syntax.specs.declared.kind.Kind.TheVariants as kind
use Rattle.wc_syntax.specs.declared.role.Role.{Role}
use Rattle.wc_syntax.specs.declared.role.Role.TheVariants as role
use Rattle.wc_syntax.specs.Standard.Phrases.{word, Phrase, Keep, ◌·◌, Many, The, token, Maybe, text, modulefield}
use Rattle.wc_syntax.specs.Standard.Phrases.{offset, instr, foldedinstr, local, typeuse, param}
use Rattle.wc_syntax.specs.Standard.Types.{lp, rp, index, valtype, functype}
use Rattle.wc_syntax.specs.Standard.Instructions.{plaininstr, literal32, literal64, memarg, head as block_head, end_id}
use Rattle.wc_syntax.specs.Standard.Instructions.{instrs}
use Rattle.wc_syntax.specs.Standard.Fields.{field_id, exported, import_names, importdesc, exportkind, strings, elements}
use Rattle.wc_syntax.specs.Standard.Fields.{field_end, function, table, memory, global}
use Rattle.wc_syntax.specs.Standard.Deriving.{at, Item, Event, kept, Derives, left, right, then, rule}

-- a token that is dropped
pub skip : {k : Kind} {number : ℕ} → Derives (token k) (at number (word k) ∷ []) []
skip = Derives.token refl

-- a token that is kept
pub keep : {r : Role} {k : Kind} {number : ℕ}
    → Derives (Keep r k) (at number (word k) ∷ []) (kept r (at number (word k)) ∷ [])
keep = Derives.keeps refl

-- ---- what is not written

pub absent : {g : Phrase} → Derives (Maybe g) [] []
absent = left Derives.empty

-- no type use
pub no_use : Derives (The typeuse) [] []
no_use = rule (then absent (then Derives.none Derives.none))

-- neither a label nor a block type
pub no_head : Derives block_head [] []
no_head = then absent no_use

-- neither an identifier nor an export
pub no_export : Derives exported [] []
no_export = then absent Derives.none

-- ---- texts

pub in_module : {n : ℕ} {us : List Item} {es : List Event}
    → Derives (lp · token kind.ModuleWord · Maybe (token kind.Id) · Many (The (modulefield n)) · rp) us es
    → Derives (The (text n)) us es
in_module d = rule (left d)

pub fields : {n : ℕ} {us : List Item} {es : List Event} → Derives (Many (The (modulefield n))) us es
    → Derives (The (text n)) us es
fields d = rule (right d)

-- ---- fields

pub a_type : {n : ℕ} {us : List Item} {es : List Event}
    → Derives (lp · Keep role.Field kind.TypeWord · field_id · functype · field_end) us es
    → Derives (The (modulefield n)) us es
a_type d = rule (left d)

pub an_import : {n : ℕ} {us : List Item} {es : List Event}
    → Derives (lp · Keep role.Field kind.ImportWord · import_names · lp · importdesc · rp · field_end) us es
    → Derives (The (modulefield n)) us es
an_import d = rule (right (left d))

pub a_func : {n : ℕ} {us : List Item} {es : List Event}
    → Derives (lp · Keep role.Field kind.FuncWord · exported · function n · field_end) us es
    → Derives (The (modulefield n)) us es
a_func d = rule (right (right (left d)))

pub a_table : {n : ℕ} {us : List Item} {es : List Event}
    → Derives (lp · Keep role.Field kind.TableWord · exported · table · field_end) us es
    → Derives (The (modulefield n)) us es
a_table d = rule (right (right (right (left d))))

pub a_memory : {n : ℕ} {us : List Item} {es : List Event}
    → Derives (lp · Keep role.Field kind.MemoryWord · exported · memory · field_end) us es
    → Derives (The (modulefield n)) us es
a_memory d = rule (right (right (right (right (left d)))))

pub a_global : {n : ℕ} {us : List Item} {es : List Event}
    → Derives (lp · Keep role.Field kind.GlobalWord · exported · global n · field_end) us es
    → Derives (The (modulefield n)) us es
a_global d = rule (right (right (right (right (right (left d))))))

pub an_export : {n : ℕ} {us : List Item} {es : List Event}
    → Derives (lp · Keep role.Field kind.ExportWord · Keep role.ExportName kind.Name · lp · exportkind · index
    role.Target · rp · field_end) us es → Derives (The (modulefield n)) us es
an_export d = rule (right (right (right (right (right (right (left d)))))))

pub a_start : {n : ℕ} {us : List Item} {es : List Event}
    → Derives (lp · Keep role.Field kind.StartWord · index role.Target · field_end) us es
    → Derives (The (modulefield n)) us es
a_start d = rule (right (right (right (right (right (right (right (left d))))))))

pub an_elem : {n : ℕ} {us : List Item} {es : List Event}
    → Derives (lp · Keep role.Field kind.ElemWord · Maybe (index role.Target) · The (offset n) · Maybe
    (token kind.FuncWord) · elements · field_end) us es → Derives (The (modulefield n)) us es
an_elem d = rule (right (right (right (right (right (right (right (right (left d)))))))))

pub a_data : {n : ℕ} {us : List Item} {es : List Event}
    → Derives (lp · Keep role.Field kind.DataWord · Maybe (index role.Target) · The (offset n) · strings · field_end) us
    es → Derives (The (modulefield n)) us es
a_data d = rule (right (right (right (right (right (right (right (right (right d)))))))))

pub long_offset : {n : ℕ} {us : List Item} {es : List Event}
    → Derives (lp · token kind.OffsetWord · instrs n · rp) us es → Derives (The (offset n)) us es
long_offset d = rule (left d)

pub short_offset : {n : ℕ} {us : List Item} {es : List Event} → Derives (The (foldedinstr n)) us es
    → Derives (The (offset n)) us es
short_offset d = rule (right d)

-- ---- parameters and locals, with an identifier and without

pub named_param : {us : List Item} {es : List Event}
    → Derives (lp · token kind.ParamWord · Keep role.ParamId kind.Id · valtype role.ParamType · rp) us es
    → Derives (The param) us es
named_param d = rule (left d)

pub params : {us : List Item} {es : List Event}
    → Derives (lp · token kind.ParamWord · Many (valtype role.ParamType) · rp) us es → Derives (The param) us es
params d = rule (right d)

pub named_local : {us : List Item} {es : List Event}
    → Derives (lp · token kind.LocalWord · Keep role.LocalId kind.Id · valtype role.LocalType · rp) us es
    → Derives (The local) us es
named_local d = rule (left d)

pub locals : {us : List Item} {es : List Event}
    → Derives (lp · token kind.LocalWord · Many (valtype role.LocalType) · rp) us es → Derives (The local) us es
locals d = rule (right d)

-- ---- instructions

pub a_plain : {n : ℕ} {us : List Item} {es : List Event} → Derives (plaininstr role.Plain) us es
    → Derives (The (instr (suc n))) us es
a_plain d = rule (left d)

pub a_folded : {n : ℕ} {us : List Item} {es : List Event} → Derives (The (foldedinstr (suc n))) us es
    → Derives (The (instr (suc n))) us es
a_folded d = rule (right (left d))

pub a_region : {n : ℕ} {us : List Item} {es : List Event}
    → Derives (Keep role.Begin kind.Region · block_head · instrs n · Keep role.End kind.EndWord · end_id) us es
    → Derives (The (instr (suc n))) us es
a_region d = rule (right (right (left d)))

pub an_if : {n : ℕ} {us : List Item} {es : List Event}
    → Derives (Keep role.Begin kind.If · block_head · instrs n · Maybe
    (Keep role.Else kind.ElseWord · end_id · instrs n) · Keep role.End kind.EndWord · end_id) us es
    → Derives (The (instr (suc n))) us es
an_if d = rule (right (right (right (left d))))

pub folded_plain : {n : ℕ} {us : List Item} {es : List Event}
    → Derives (lp · plaininstr role.HeldPlain · Many (The (foldedinstr n)) · Keep role.HeldEnd kind.Close) us es
    → Derives (The (foldedinstr (suc n))) us es
folded_plain d = rule (left d)

pub folded_region : {n : ℕ} {us : List Item} {es : List Event}
    → Derives (lp · Keep role.Begin kind.Region · block_head · instrs n · Keep role.End kind.Close) us es
    → Derives (The (foldedinstr (suc n))) us es
folded_region d = rule (right (left d))

pub folded_if : {n : ℕ} {us : List Item} {es : List Event}
    → Derives (lp · Keep role.HeldBegin kind.If · block_head · Many (The (foldedinstr n)) · lp · Keep role.Then
    kind.ThenWord · instrs n · rp · Maybe (lp · Keep role.Else kind.ElseWord · instrs n · rp) · Keep role.End
    kind.Close) us es → Derives (The (foldedinstr (suc n))) us es
folded_if d = rule (right (right (left d)))

-- ---- instructions in which none is nested

pub simple_name : {r : Role} {us : List Item} {es : List Event} → Derives (Keep r kind.Simple) us es
    → Derives (plaininstr r) us es
simple_name d = left d

pub index_name : {r : Role} {us : List Item} {es : List Event} → Derives (Keep r kind.Indexed · index role.Index) us es
    → Derives (plaininstr r) us es
index_name d = right (left d)

pub call_indirect_name : {r : Role} {us : List Item} {es : List Event}
    → Derives (Keep r kind.CallIndirect · The typeuse) us es → Derives (plaininstr r) us es
call_indirect_name d = right (right (right (left d)))

pub access_name : {r : Role} {us : List Item} {es : List Event} → Derives (Keep r kind.Access · memarg) us es
    → Derives (plaininstr r) us es
access_name d = right (right (right (right (left d))))

pub const_name : {r : Role} {us : List Item} {es : List Event} → Derives (Keep r kind.Const32 · literal32) us es
    → Derives (plaininstr r) us es
const_name d = right (right (right (right (right (left d)))))

pub wide_const_name : {r : Role} {us : List Item} {es : List Event} → Derives (Keep r kind.Const64 · literal64) us es
    → Derives (plaininstr r) us es
wide_const_name d = right (right (right (right (right (right d)))))
