-- Parts of fields are derived.
use Rattle.std.proofs.Common.{◌≡◌, ℕ, ◌-◌, ◌^◌, ◌<◌, ◌≤◌, nat_lt, Bool, true, false, List, [], ◌∷◌, ◌++◌, map, refl}
use Rattle.std.proofs.Common.{arith, Some, ℤ, pos, negsuc, suc, ltb→lt, IsUtf8}
use Rattle.std.specs.Prelude.{if◌then◌else◌}
use Rattle.std.specs.List.{AllByRecursion}
use Rattle.std.specs.Str.{is_utf8}
use Rattle.std.proofs.Math.Dec.{leb→le}
use Rattle.wc_ops.specs.declared.op.Op.{Op}
use Rattle.wc_ops.specs.declared.val_type.ValType.{ValType as ValueType}
use Rattle.wc_ops.specs.Standard.Opcodes.{row}
use Rattle.wc_body.specs.declared.instr.BlockType.{BlockType}
use Rattle.wc_body.specs.declared.instr.BlockType.TheVariants as block_types
use Rattle.wc_body.specs.Standard.ValueBytes.{Fits32}
use Rattle.wc_body.specs.Standard.InstructionBytes.{FitsBlockType}
use Rattle.wc_leb128.specs.Standard.Shortest.{HoldsSigned}
use Rattle.wc_syntax.specs.declared.kind.Kind.{Kind}
use Rattle.wc_syntax.specs.declared.kind.Kind.TheVariants as kind
use Rattle.wc_syntax.specs.declared.role.Role.{Role}
use Rattle.wc_syntax.specs.declared.role.Role.TheVariants as role
use Rattle.wc_syntax.specs.Standard.Phrases.{Keep, ◌·◌, ◌∣◌, Many, The, token, typeuse, param, result, local}
use Rattle.wc_syntax.specs.Standard.Types.{lp, rp, index, valtype}
use Rattle.wc_syntax.specs.Standard.Instructions.{literal32, literal64, head}
use Rattle.wc_syntax.specs.Standard.Fields.{strings, field_end, exported}
use Rattle.wc_symbols.specs.declared.symbol.Value.{Value}
use Rattle.wc_symbols.specs.declared.symbol.Value.TheVariants.{Nothing, Number, Instruction, ValType}
use Rattle.wc_symbols.specs.Standard.Symbols.{valued}
use Rattle.wc_symbols.specs.Standard.Names.{keyword, op_kind}
use Rattle.wc_print.specs.Standard.Printed.{opening, closing, word, number, integer, quoted}
use Rattle.wc_print.specs.Standard.Printable.{IsByte}
use Rattle.wc_readback.specs.Grammar.Signs.{Sign, spoken, opens, closes, ends, key_word, key, kept_key, op_sign}
use Rattle.wc_readback.specs.Grammar.Signs.{type_word, type_sign, natural, literal, name, string}
use Rattle.wc_readback.specs.Grammar.InstructionSigns.{values_signs, type_use_signs, block_signs, naturals}
use Rattle.wc_readback.proofs.GrammarLemmas.Symbols.{Says, says-key, says-op, says-type, says-natural, says-integer}
use Rattle.wc_readback.proofs.GrammarLemmas.Symbols.{says-integer-32, says-name, says-string}
use Rattle.wc_readback.proofs.GrammarLemmas.Meaning.{Means, dropped, kept-in, both, first, in-left, in-right, by-rule}
use Rattle.wc_readback.proofs.GrammarLemmas.Meaning.{no-more, one-more, skip, skip-many, just}

-- ---- one token

pub open-means : Means lp (opens ∷ [])
open-means = dropped opening kind.Open Nothing refl

pub close-means : Means rp (closes ∷ [])
close-means = dropped closing kind.Close Nothing refl

pub end-means : Means field_end (ends ∷ [])
end-means = kept-in role.FieldEnd closing kind.Close Nothing refl

pub key-means : (k : Kind) → keyword k ≡ Some (key_word k) → Means (token k) (key k ∷ [])
key-means k e = dropped (word (key_word k)) k Nothing (says-key k e)

pub kept-means : (r : Role) (k : Kind) → keyword k ≡ Some (key_word k) → Means (Keep r k) (kept_key r k ∷ [])
kept-means r k e = kept-in r (word (key_word k)) k Nothing (says-key k e)

pub op-means : (r : Role) (o : Op) → Means (Keep r (op_kind o)) (op_sign r o ∷ [])
op-means r o = kept-in r (word (row o).name) (op_kind o) (Instruction o) (says-op o)

pub type-means : (r : Role) (t : ValueType) → Means (valtype r) (type_sign r t ∷ [])
type-means r t = kept-in r (word (type_word t)) kind.ValType (ValType t) (says-type t)

pub natural-means : (r : Role) (n : ℕ) → Fits32 n → Means (Keep r kind.Natural32) (natural r n ∷ [])
natural-means r n lt = kept-in r (number n) kind.Natural32 (Number n) (says-natural n lt)

pub index-means : (r : Role) (n : ℕ) → Fits32 n → Means (index r) (natural r n ∷ [])
index-means r n lt = in-left (natural-means r n lt)

pub name-means : (r : Role) (bytes : List ℕ) → IsUtf8 bytes → AllByRecursion IsByte bytes
    → Means (Keep r kind.Name) (name r bytes ∷ [])
name-means r bytes u h = kept-in r (quoted bytes) kind.Name Nothing (says-name bytes u h)

string-by : (bytes : List ℕ) (b : Bool) → Says (quoted bytes) (valued (if b then kind.Name else kind.Text) Nothing)
    → Means (Keep role.Bytes kind.Name ∣ Keep role.Bytes kind.Text)
    (spoken role.Bytes (quoted bytes) (valued (if b then kind.Name else kind.Text) Nothing) ∷ [])
string-by bytes true h = in-left (kept-in role.Bytes (quoted bytes) kind.Name Nothing h)
string-by bytes false h = in-right (kept-in role.Bytes (quoted bytes) kind.Text Nothing h)

pub string-means : (bytes : List ℕ) → AllByRecursion IsByte bytes → Means strings (string role.Bytes bytes ∷ [])
string-means bytes h = just (string-by bytes (is_utf8 bytes) (says-string bytes h))

-- ---- numbers of constants

-- the kind of a number without a sign, and of one behind a minus sign, by a test
abbrev unsigned-kind : Bool → Kind
unsigned-kind b = if b then kind.Natural32 else kind.Natural64

abbrev minus-kind : Bool → Kind
minus-kind b = if b then kind.Signed64 else kind.Signed32

abbrev of-kind : ℤ → Kind → Value → Sign
of-kind z k v = spoken role.Literal (integer z) (valued k v)

unsigned-32 : (n : ℕ) (v : Value) (b : Bool) → nat_lt n (2 ^ 32) ≡ b → n < 2 ^ 31
    → Says (integer (pos n)) (valued (unsigned-kind b) v) → Means literal32 (of-kind (pos n) (unsigned-kind b) v ∷ [])
unsigned-32 n v true e lt h = in-left (kept-in role.Literal (integer (pos n)) kind.Natural32 v h)
unsigned-32 n v false e lt h = absurd (grind arith)

minus-32 : (n : ℕ) (v : Value) (b : Bool) → nat_lt (2 ^ 31) (suc n) ≡ b → n < 2 ^ 31
    → Says (integer (negsuc n)) (valued (minus-kind b) v) → Means literal32 (of-kind (negsuc n) (minus-kind b) v ∷ [])
minus-32 n v true e lt h = absurd (grind arith)
minus-32 n v false e lt h = in-right (kept-in role.Literal (integer (negsuc n)) kind.Signed32 v h)

unsigned-64 : (n : ℕ) (v : Value) (b : Bool) → Says (integer (pos n)) (valued (unsigned-kind b) v)
    → Means literal64 (of-kind (pos n) (unsigned-kind b) v ∷ [])
unsigned-64 n v true h = in-left (kept-in role.Literal (integer (pos n)) kind.Natural32 v h)
unsigned-64 n v false h = in-right (in-left (kept-in role.Literal (integer (pos n)) kind.Natural64 v h))

minus-64 : (n : ℕ) (v : Value) (b : Bool) → Says (integer (negsuc n)) (valued (minus-kind b) v)
    → Means literal64 (of-kind (negsuc n) (minus-kind b) v ∷ [])
minus-64 n v true h = in-right (in-right (in-right (kept-in role.Literal (integer (negsuc n)) kind.Signed64 v h)))
minus-64 n v false h = in-right (in-right (in-left (kept-in role.Literal (integer (negsuc n)) kind.Signed32 v h)))

pub literal32-means : (z : ℤ) → HoldsSigned 32 z → Means literal32 (literal z ∷ [])
literal32-means (pos n) h =
    unsigned-32 n (Number n) (nat_lt n (2 ^ 32)) refl (ltb→lt n (2 ^ 31) h.1.lt) (says-integer-32 (pos n) h)
literal32-means (negsuc n) h =
    let le : n ≤ 2 ^ 31 - 1 = leb→le n _ h.0.le in
    minus-32 n _ (nat_lt (2 ^ 31) (suc n)) refl (omega (arith, le)) (says-integer-32 (negsuc n) h)

pub literal64-means : (z : ℤ) → HoldsSigned 64 z → Means literal64 (literal z ∷ [])
literal64-means (pos n) h = unsigned-64 n (Number n) (nat_lt n (2 ^ 32)) (says-integer (pos n) h)
literal64-means (negsuc n) h = minus-64 n _ (nat_lt (2 ^ 31) (suc n)) (says-integer (negsuc n) h)

-- ---- lists of tokens

pub types-means : (r : Role) (ts : List ValueType) → Means (Many (valtype r)) (map (type_sign r) ts)
types-means r [] = no-more
types-means r (t ∷ ts) = one-more (type-means r t) (types-means r ts)

pub indices-means : (r : Role) (ns : List ℕ) → AllByRecursion Fits32 ns → Means (Many (index r)) (naturals r ns)
indices-means r [] h = no-more
indices-means r (n ∷ ns) h = one-more (index-means r n h.0) (indices-means r ns h.1)

listed : (k : Kind) (r : Role) (ts : List ValueType) → keyword k ≡ Some (key_word k)
    → Means (lp · token k · Many (valtype r) · rp) (opens ∷ key k ∷ (map (type_sign r) ts ++ (closes ∷ [])))
listed k r ts e = first open-means (first (key-means k e) (both (types-means r ts) close-means))

pub params-means : (ts : List ValueType) → Means (Many (The param)) (values_signs kind.ParamWord role.ParamType ts)
params-means [] = no-more
params-means (t ∷ ts) = just (by-rule (in-right (listed kind.ParamWord role.ParamType (t ∷ ts) refl)))

pub results-means : (ts : List ValueType) → Means (Many (The result)) (values_signs kind.ResultWord role.ResultType ts)
results-means [] = no-more
results-means (t ∷ ts) = just (by-rule (listed kind.ResultWord role.ResultType (t ∷ ts) refl))

pub locals-means : (ts : List ValueType) → Means (Many (The local)) (values_signs kind.LocalWord role.LocalType ts)
locals-means [] = no-more
locals-means (t ∷ ts) = just (by-rule (in-right (listed kind.LocalWord role.LocalType (t ∷ ts) refl)))

-- ---- types by their indices, and block types

pub typeuse-means : (n : ℕ) → Fits32 n → Means (The typeuse) (type_use_signs n)
typeuse-means n lt =
    by-rule (both (in-right (first open-means (first (key-means kind.TypeWord refl)
    (first (index-means role.TypeIndex n lt) close-means))))
    (both no-more no-more))

pub head-means : (t : BlockType) → FitsBlockType t → Means head (block_signs t)
head-means block_types.Empty h = skip (by-rule (skip (skip-many no-more)))
head-means (block_types.Value t) h = skip (by-rule (skip (skip-many (results-means (t ∷ [])))))
head-means (block_types.Index n) h = skip (typeuse-means n h)

pub exported-means : Means exported []
exported-means = skip no-more
