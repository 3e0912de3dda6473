-- A word is one name.
use Rattle.std.proofs.Common.{◌≡◌, ℕ, false, List, [], ◌∷◌, Option, Some, None, if◌then◌else◌, refl}
use Rattle.std.proofs.Common.{ap, subst, codes}
use Rattle.std.specs.Str.{bytes_eq}
use Rattle.wc_ops.specs.declared.op.Op.{Op}
use Rattle.wc_ops.specs.declared.op.Op.TheVariants as op
use Rattle.wc_ops.specs.declared.op.SimpleOp.{SimpleOp}
use Rattle.wc_ops.specs.declared.op.SimpleOp.TheVariants as simple
use Rattle.wc_ops.specs.declared.op.IndexOp.{IndexOp}
use Rattle.wc_ops.specs.declared.op.IndexOp.TheVariants as index
use Rattle.wc_ops.specs.declared.op.MemOp.{MemOp}
use Rattle.wc_ops.specs.declared.op.MemOp.TheVariants as memory
use Rattle.wc_ops.specs.declared.val_type.ValType.TheVariants as type
use Rattle.wc_ops.specs.Standard.Opcodes.{row}
use Rattle.wc_ops.specs.Reading.OpcodeMeaning.{all_ops}
use Rattle.wc_ops.specs.Standard.NameMeaning.{is_float_name}
use Rattle.wc_syntax.specs.declared.kind.Kind.{Kind}
use Rattle.wc_syntax.specs.declared.kind.Kind.TheVariants as kind
use Rattle.wc_symbols.specs.declared.symbol.Symbol.{Symbol}
use Rattle.wc_symbols.specs.declared.symbol.Value.TheVariants.{Instruction, ValType}
use Rattle.wc_symbols.specs.Standard.Symbols.{bare, valued}
use Rattle.wc_symbols.specs.Standard.Names.{op_kind, keyword, KeywordIs, word, i32, i64, f32, f64, NameIs, keyword_is}
use Rattle.wc_symbols.specs.Standard.Names.{instruction, float}

-- a keyword or the name of a type, with what it is
pub record Entry : Type 0 where
  pub text : List ℕ
  pub is : Symbol

abbrev pub as_entry : List ℕ → Symbol → Entry
as_entry t s = record { text = t; is = s }

abbrev pub keywords : List Entry
keywords =
    as_entry (codes "then") (bare kind.ThenWord) ∷ as_entry (codes "else") (bare kind.ElseWord) ∷
    as_entry (codes "end") (bare kind.EndWord) ∷ as_entry (codes "module") (bare kind.ModuleWord) ∷
    as_entry (codes "type") (bare kind.TypeWord) ∷ as_entry (codes "import") (bare kind.ImportWord) ∷
    as_entry (codes "func") (bare kind.FuncWord) ∷ as_entry (codes "table") (bare kind.TableWord) ∷
    as_entry (codes "memory") (bare kind.MemoryWord) ∷ as_entry (codes "global") (bare kind.GlobalWord) ∷
    as_entry (codes "export") (bare kind.ExportWord) ∷ as_entry (codes "start") (bare kind.StartWord) ∷
    as_entry (codes "elem") (bare kind.ElemWord) ∷ as_entry (codes "data") (bare kind.DataWord) ∷
    as_entry (codes "offset") (bare kind.OffsetWord) ∷ as_entry (codes "local") (bare kind.LocalWord) ∷
    as_entry (codes "param") (bare kind.ParamWord) ∷ as_entry (codes "result") (bare kind.ResultWord) ∷
    as_entry (codes "mut") (bare kind.MutWord) ∷ as_entry (codes "funcref") (bare kind.FuncrefWord) ∷
    as_entry (codes "i32") (valued kind.ValType (ValType type.I32)) ∷
    as_entry (codes "i64") (valued kind.ValType (ValType type.I64)) ∷
    as_entry (codes "f32") (bare kind.FloatType) ∷ as_entry (codes "f64") (bare kind.FloatType) ∷ []

abbrev pub find_keyword : List Entry → List ℕ → Option Symbol
find_keyword [] t = None
find_keyword (x ∷ xs) t = if bytes_eq x.text t then Some x.is else find_keyword xs t

abbrev pub find_op : List Op → List ℕ → Option Op
find_op [] t = None
find_op (o ∷ os) t = if bytes_eq (row o).name t then Some o else find_op os t

-- what is known of a text that is a keyword
abbrev pub IsKeyword : List ℕ → Symbol → Type 0
IsKeyword text s =
    (find_keyword keywords text ≡ Some s) × (find_op all_ops text ≡ None) × (is_float_name text ≡ false)

abbrev IfKeyword : Kind → Option (List ℕ) → Type 0
IfKeyword k None = Unit {0}
IfKeyword k (Some text) = IsKeyword text (bare k)

keyword-is : (k : Kind) → IfKeyword k (keyword k)
keyword-is kind.ThenWord = (refl, refl, refl)
keyword-is kind.ElseWord = (refl, refl, refl)
keyword-is kind.EndWord = (refl, refl, refl)
keyword-is kind.ModuleWord = (refl, refl, refl)
keyword-is kind.TypeWord = (refl, refl, refl)
keyword-is kind.ImportWord = (refl, refl, refl)
keyword-is kind.FuncWord = (refl, refl, refl)
keyword-is kind.TableWord = (refl, refl, refl)
keyword-is kind.MemoryWord = (refl, refl, refl)
keyword-is kind.GlobalWord = (refl, refl, refl)
keyword-is kind.ExportWord = (refl, refl, refl)
keyword-is kind.StartWord = (refl, refl, refl)
keyword-is kind.ElemWord = (refl, refl, refl)
keyword-is kind.DataWord = (refl, refl, refl)
keyword-is kind.OffsetWord = (refl, refl, refl)
keyword-is kind.LocalWord = (refl, refl, refl)
keyword-is kind.ParamWord = (refl, refl, refl)
keyword-is kind.ResultWord = (refl, refl, refl)
keyword-is kind.MutWord = (refl, refl, refl)
keyword-is kind.FuncrefWord = (refl, refl, refl)
keyword-is _ = tt

pub KeywordIs-found : {text : List ℕ} {s : Symbol} → KeywordIs text s → IsKeyword text s
KeywordIs-found (word k e) = subst (IfKeyword k) e (keyword-is k)
KeywordIs-found i32 = (refl, refl, refl)
KeywordIs-found i64 = (refl, refl, refl)
KeywordIs-found f32 = (refl, refl, refl)
KeywordIs-found f64 = (refl, refl, refl)

-- what is known of an instruction's name
abbrev pub IsOp : List ℕ → Op → Type 0
IsOp text o = (find_op all_ops text ≡ Some o) × (is_float_name text ≡ false)

simple-is : (o : SimpleOp) → IsOp (row (op.Simple o)).name (op.Simple o)
simple-is simple.Nop = (refl, refl)
simple-is _ = (refl, refl)

index-is : (o : IndexOp) → IsOp (row (op.Index o)).name (op.Index o)
index-is index.Br = (refl, refl)
index-is _ = (refl, refl)

memory-is : (o : MemOp) → IsOp (row (op.Mem o)).name (op.Mem o)
memory-is memory.I32Load = (refl, refl)
memory-is _ = (refl, refl)

op-is : (o : Op) → IsOp (row o).name o
op-is (op.Simple o) = simple-is o
op-is (op.Index o) = index-is o
op-is (op.Mem o) = memory-is o
op-is op.BrTable = (refl, refl)
op-is op.CallIndirect = (refl, refl)
op-is op.I32Const = (refl, refl)
op-is op.I64Const = (refl, refl)
op-is op.Block = (refl, refl)
op-is op.Loop = (refl, refl)
op-is op.If = (refl, refl)

pub op-found : (text : List ℕ) (o : Op) → (row o).name ≡ text → IsOp text o
op-found text o e = subst (λ (t : List ℕ). IsOp t o) e (op-is o)

pub NameIs-same : {text : List ℕ} {s o : Symbol} → NameIs text s → NameIs text o → s ≡ o
NameIs-same (keyword_is h) (keyword_is k) = let a = KeywordIs-found h in let b = KeywordIs-found k in cc (a.0, b.0)
NameIs-same (keyword_is {text = t} h) (instruction q e) =
    let a = KeywordIs-found h in let b = op-found t q e in absurd (cc (a.1, b.0))
NameIs-same (keyword_is h) (float t) = let a = KeywordIs-found h in absurd (cc (a.2, t))
NameIs-same (instruction {text = t} p d) (keyword_is k) =
    let a = op-found t p d in let b = KeywordIs-found k in absurd (cc (a.0, b.1))
NameIs-same (instruction {text = t} p d) (instruction q e) =
    let a = op-found t p d in
    let b = op-found t q e in
    let same : p ≡ q = cc (a.0, b.0) in
    ap (λ (x : Op). valued (op_kind x) (Instruction x)) same
NameIs-same (instruction {text = t} p d) (float f) = let a = op-found t p d in absurd (cc (a.1, f))
NameIs-same (float f) (keyword_is k) = let b = KeywordIs-found k in absurd (cc (f, b.2))
NameIs-same (float {text = t} f) (instruction q e) = let b = op-found t q e in absurd (cc (f, b.1))
NameIs-same (float f) (float g) = refl
