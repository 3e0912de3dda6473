-- Each module has canonical bytes, or none spell it: whether every number, count and size of it fits.
use Rattle.std.proofs.Common.{◌≡◌, ℕ, ◌<◌, ◌≤◌, ◌^◌, List, [], ◌∷◌, length, Bool, true, false, Option, Some, None}
use Rattle.std.proofs.Common.{IsUtf8, ◌⊎◌, inl, inr, refl, sym, ◌∙◌, ℤ, arith}
use Rattle.std.specs.Str.{is_utf8}
use Rattle.std.specs.List.{AllByRecursion}
use Rattle.std.specs.Int.Signed.{◌<ℤ◌, ◌≤ℤ◌, clash_ℤ}
use Rattle.std.proofs.lemmas.Bool.{cases_lt}
use Rattle.std.proofs.lemmas.Int.{by_lt_z}
use Rattle.std.proofs.lemmas.Str.{IsUtf8-from_is_utf8, is_utf8-from_IsUtf8}
use Rattle.wc_leb128.specs.Standard.Shortest.{HoldsSigned}
use Rattle.wc_body.specs.Standard.Nested.{Code, empty, op, region, choice, nesting, nesting_limit}
use Rattle.wc_body.specs.Standard.Throughout.{Throughout}
use Rattle.wc_body.specs.Standard.ValueBytes.{Fits32, FitsVector}
use Rattle.wc_body.specs.Standard.InstructionBytes.{FitsInstr, FitsBlockType, FitsExpr}
use Rattle.wc_body.specs.declared.instr.BlockType.{BlockType}
use Rattle.wc_body.specs.declared.instr.BlockType.TheVariants as block_types
use Rattle.wc_body.specs.declared.instr.Instr.{Instr}
use Rattle.wc_body.specs.declared.instr.Instr.TheVariants as instrs
use Rattle.wc_ast.specs.declared.limits.Limits.{Limits}
use Rattle.wc_ast.specs.declared.import.Desc.{Desc}
use Rattle.wc_ast.specs.declared.import.Desc.TheVariants as descs
use Rattle.wc_ast.specs.declared.module.Module.{Module}
use Rattle.wc_binary.specs.Standard.Module.{Bin, Canon, parts_of}
use Rattle.wc_binary.specs.Standard.Sections.{Held, held_by, in_order}
use Rattle.wc_binary.specs.declared.section.SectionKind.{SectionKind}
use Rattle.wc_binary.specs.declared.section.SectionKind.TheVariants as kinds
use Rattle.wc_binary.specs.declared.parts.Parts.{Parts}
use Rattle.wc_leb128.specs.Writing.Bytes.{unsigned_bytes}
use Rattle.wc_ast.specs.Standard.LocalGroups.{locals_limit}
use Rattle.wc_binary.specs.Standard.Values.{IsByte}
use Rattle.wc_binary.specs.Writing.Values.{Anything, FitsSized, FitsFuncType, FitsMaximum, FitsLimits, FitsName}
use Rattle.wc_binary.specs.Writing.Values.{FitsDesc, FitsImport, FitsExport, FitsSection, FitsStart, func_type_bytes}
use Rattle.wc_binary.specs.Writing.Values.{import_bytes, table_type_bytes, limits_bytes, export_bytes}
use Rattle.wc_binary.specs.Writing.Contents.{FitsGlobal, FitsElem, FitsData, FitsCode, global_bytes}
use Rattle.wc_binary.specs.Writing.Contents.{elem_bytes, data_bytes, func_bytes, code_bytes}
use Rattle.wc_binary.specs.Writing.Sections.{FitsHeld, FitsFrom}
use Rattle.wc_binary.proofs.spelling.whole.ModuleBytes.{module_bytes, FitsModule}
use Rattle.wc_binary.proofs.spelling.whole.Modules.{bin-longer, canon-written}

-- it holds, or it doesn't
abbrev pub Decided : Type 0 → Type 0
Decided A = A ⊎ (A → ⊥)

both : {A B : Type 0} → Decided A → Decided B → Decided (A × B)
both (inl a) (inl b) = inl (a, b)
both (inl a) (inr n) = inr (λ p. n p.1)
both (inr n) q = inr (λ p. n p.0)

three : {A B C : Type 0} → Decided A → Decided B → Decided C → Decided (A × B × C)
three (inl a) (inl b) (inl c) = inl (a, b, c)
three (inl a) (inl b) (inr n) = inr (λ p. n p.2)
three (inl a) (inr n) r = inr (λ p. n p.1)
three (inr n) q r = inr (λ p. n p.0)

four : {A B C D : Type 0} → Decided A → Decided B → Decided C → Decided D → Decided (A × B × C × D)
four (inl a) (inl b) (inl c) (inl d) = inl (a, b, c, d)
four (inl a) (inl b) (inl c) (inr n) = inr (λ p. n p.3)
four (inl a) (inl b) (inr n) s = inr (λ p. n p.2)
four (inl a) (inr n) r s = inr (λ p. n p.1)
four (inr n) q r s = inr (λ p. n p.0)

less : (a b : ℕ) → Decided (a < b)
less a b = elim (cases_lt a b) [
  | inl l ↦ inl l
  | inr l ↦ inr (λ p. omega (arith, l, p))
]

at-most : (a b : ℕ) → Decided (a ≤ b)
at-most a b = elim (cases_lt b a) [
  | inl l ↦ inr (λ p. omega (arith, l, p))
  | inr l ↦ inl l
]

below : (a b : ℤ) → Decided (a <ℤ b)
below a b = by_lt_z a b (λ l. inl l) (λ l. inr (λ p. clash_ℤ p l))

up-to : (a b : ℤ) → Decided (a ≤ℤ b)
up-to a b = by_lt_z b a (λ l. inr (λ p. clash_ℤ l p)) (λ l. inl l)

each : {A : Type 0} (F : A → Type 0) → ((v : A) → Decided (F v)) → (vs : List A) → Decided (AllByRecursion F vs)
each F f [] = inl tt
each F f (v ∷ vs) = both (f v) (each F f vs)

throughout : (code : Code Instr BlockType) (F : Instr → Type 0) (G : BlockType → Type 0) → ((i : Instr) → Decided (F i))
    → ((t : BlockType) → Decided (G t)) → Decided (Throughout F G code)
throughout empty F G f g = inl tt
throughout (op i next) F G f g = both (f i) (throughout next F G f g)
throughout (region r h inside next) F G f g = three (g h) (throughout inside F G f g) (throughout next F G f g)
throughout (choice h first second next) F G f g =
    four (g h) (throughout first F G f g) (throughout second F G f g) (throughout next F G f g)

-- ---- values

fits : (n : ℕ) → Decided (Fits32 n)
fits n = less n (2 ^ 32)

anything : {A : Type 0} (v : A) → Decided (Anything v)
anything v = inl tt

vector : {A : Type 0} (F : A → Type 0) → ((v : A) → Decided (F v)) → (vs : List A) → Decided (FitsVector F vs)
vector F f vs = both (less (length vs) (2 ^ 32)) (each F f vs)

signed : (bits : ℕ) (z : ℤ) → Decided (HoldsSigned bits z)
signed bits z = both (up-to _ z) (below z _)

utf8-by : (bytes : List ℕ) (b : Bool) → is_utf8 bytes ≡ b → Decided (IsUtf8 bytes)
utf8-by bytes true e = inl (IsUtf8-from_is_utf8 bytes e)
utf8-by bytes false e = inr (λ p. let h : true ≡ false = sym (is_utf8-from_IsUtf8 bytes p) ∙ e in absurd (cc))

name : (bytes : List ℕ) → Decided (FitsName bytes)
name bytes = both (fits (length bytes)) (utf8-by bytes (is_utf8 bytes) refl)

maximum : (n : Option ℕ) → Decided (FitsMaximum n)
maximum None = inl tt
maximum (Some n) = fits n

limits : (l : Limits) → Decided (FitsLimits l)
limits l = both (fits l.min) (maximum l.max)

-- ---- code

instr : (i : Instr) → Decided (FitsInstr i)
instr (instrs.Simple o) = inl tt
instr (instrs.Index o n) = fits n
instr (instrs.Mem o arg) = both (fits arg.align) (fits arg.offset)
instr (instrs.BrTable default labels) = both (vector Fits32 fits labels) (fits default)
instr (instrs.CallIndirect ty) = fits ty
instr (instrs.I32Const n) = signed 32 n
instr (instrs.I64Const n) = signed 64 n

block : (t : BlockType) → Decided (FitsBlockType t)
block block_types.Empty = inl tt
block (block_types.Value ty) = inl tt
block (block_types.Index n) = fits n

expr : (code : Code Instr BlockType) → Decided (FitsExpr code)
expr code = both (throughout code FitsInstr FitsBlockType instr block) (at-most (nesting code) nesting_limit)

-- ---- sections

desc : (d : Desc) → Decided (FitsDesc d)
desc (descs.Func index) = fits index
desc (descs.Table l) = limits l
desc (descs.Memory l) = limits l
desc (descs.Global g) = inl tt

sized : {A : Type 0} (w : A → List ℕ) (F : A → Type 0) → ((v : A) → Decided (F v)) → (v : A) → Decided (FitsSized w F v)
sized w F f v = both (less (length (w v)) (2 ^ 32)) (f v)

section_of : {A : Type 0} (w : A → List ℕ) (F : A → Type 0) → ((v : A) → Decided (F v)) → (vs : List A)
    → Decided (FitsSection w F vs)
section_of w F f [] = inl tt
section_of w F f (v ∷ vs) = both (less _ (2 ^ 32)) (vector F f (v ∷ vs))

start : (s : Option ℕ) → Decided (FitsStart s)
start None = inl tt
start (Some index) = both (less _ (2 ^ 32)) (fits index)

held : (k : SectionKind) (v : Held k) → Decided (FitsHeld k v)
held kinds.Custom v = inl tt
held kinds.Type v = section_of func_type_bytes FitsFuncType (λ t.
    both (vector Anything anything t.params) (vector Anything anything t.results)) v
held kinds.Import v = section_of import_bytes FitsImport (λ i.
    both (name i.«module») (both (name i.name) (desc i.desc))) v
held kinds.Function v = section_of unsigned_bytes Fits32 fits v
held kinds.Table v = section_of table_type_bytes FitsLimits limits v
held kinds.Memory v = section_of limits_bytes FitsLimits limits v
held kinds.Global v = section_of global_bytes FitsGlobal (λ g. expr g.init) v
held kinds.Export v = section_of export_bytes FitsExport (λ e. both (name e.name) (fits e.index)) v
held kinds.Start v = start v
held kinds.Element v =
    section_of elem_bytes FitsElem (λ e. both (fits e.table) (both (expr e.offset) (vector Fits32 fits e.funcs))) v
held kinds.Code v = section_of code_bytes FitsCode (λ f.
    both (less (length (func_bytes f)) (2 ^ 32)) (both (at-most (length f.locals) locals_limit) (expr f.body))) v
held kinds.Data v =
    section_of data_bytes FitsData (λ d. both (fits d.memory)
    (both (expr d.offset) (both (fits (length d.bytes)) (each IsByte (λ b. less b 256) d.bytes)))) v

all-held : (p : Parts) (ks : List SectionKind) → Decided (FitsFrom p ks)
all-held p [] = inl tt
all-held p (k ∷ ks) = both (held k (held_by k p)) (all-held p ks)

decided : (m : Module) → Decided (FitsModule m) → ((b : List ℕ) × Canon b m) ⊎ ((b : List ℕ) → Bin b m → ⊥)
decided m (inl f) = inl (module_bytes m, canon-written m f)
decided m (inr n) = inr (λ b p. n (bin-longer b m p).0)

pub canon-judged : (m : Module) → ((b : List ℕ) × Canon b m) ⊎ ((b : List ℕ) → Bin b m → ⊥)
canon-judged m = decided m (all-held (parts_of m) in_order)
