-- What a word may say by its first characters.
use Rattle.std.proofs.Common.{◌≡◌, ◌≢◌, ℕ, ◌<◌, ◌≤◌, nat_eq, nat_le, Bool, true, false, List, [], ◌∷◌}
use Rattle.std.proofs.Common.{◌++◌, length, take, drop, codes, get_or, lit<, IsUtf8, if◌then◌else◌}
use Rattle.std.proofs.Common.{Option, Some, None, refl, sym, ap, subst, ◌∙◌, ◌⊎◌, inl, inr, arith}
use Rattle.std.specs.Str.{bytes_eq}
use Rattle.std.specs.List.{starts_with}
use Rattle.std.specs.Str.{IsCharBoundary}
use Rattle.std.proofs.lemmas.Str.{IsCharBoundary-after_ascii}
use Rattle.std.proofs.lemmas.Bool.{cases_eq, and_parts}
use Rattle.std.proofs.lemmas.Bool.Decides.{nat_tests}
use Rattle.std.proofs.lemmas.List.{take-append-drop}
use Rattle.std.proofs.lemmas.Slice.Eq.{bytes_eq-Decides}
use Rattle.wc_ops.specs.declared.op.Op.{Op}
use Rattle.wc_ops.specs.declared.op.Op.TheVariants as op
use Rattle.wc_ops.specs.declared.op.SimpleOp.{SimpleOp}
use Rattle.wc_ops.specs.declared.op.SimpleOp.TheVariants as simple
use Rattle.wc_ops.specs.declared.op.IndexOp.{IndexOp}
use Rattle.wc_ops.specs.declared.op.IndexOp.TheVariants as index
use Rattle.wc_ops.specs.declared.op.MemOp.{MemOp}
use Rattle.wc_ops.specs.declared.op.MemOp.TheVariants as memory
use Rattle.wc_ops.specs.Standard.Opcodes.{row}
use Rattle.wc_ops.specs.Standard.NameMeaning.{is_float_name}
use Rattle.wc_tokens.specs.Standard.Numbers.{Natural, Literal, unsigned, plus, minus}
use Rattle.wc_syntax.specs.declared.kind.Kind.{Kind}
use Rattle.wc_syntax.specs.declared.kind.Kind.TheVariants as kind
use Rattle.wc_symbols.specs.declared.symbol.Symbol.{Symbol}
use Rattle.wc_symbols.specs.declared.shape.Shape.{Shape}
use Rattle.wc_symbols.specs.declared.shape.Shape.TheVariants as shape
use Rattle.wc_symbols.specs.Standard.Symbols.{OrOther}
use Rattle.wc_symbols.specs.Standard.Numbers.{NaturalIs, below_32, below_64, above, HasSign, SignedIs, of_32, of_64}
use Rattle.wc_symbols.specs.Standard.Numbers.{beyond, OffsetIs, AlignIs}
use Rattle.wc_symbols.specs.Standard.Names.{keyword, KeywordIs, word, i32, i64, f32, f64, NameIs, keyword_is}
use Rattle.wc_symbols.specs.Standard.Names.{instruction, float}
use Rattle.wc_symbols.specs.Standard.Words.{Says, natural, signed, offset, align, name, WordIs, known, other}
use Rattle.wc_symbols.specs.Reading.Shapes.{shape_of}
use Rattle.wc_symbols.proofs.Spelling.DigitLemmas.{begins}

-- ---- the shape of what says something

digit-shape : (c : ℕ) (rest : List ℕ) → 48 ≤ c → c ≤ 57 → shape_of (c ∷ rest) ≡ shape.Natural
digit-shape c rest low high =
    let a : nat_le 48 c ≡ true = grind (arith, nat_tests) in
    let b : nat_le c 57 ≡ true = grind (arith, nat_tests) in
    rw (a, b)

number-shape : {text : List ℕ} {n : ℕ} → Natural text n → shape_of text ≡ shape.Natural
number-shape d = let b = begins d in ap shape_of b.text_is ∙ digit-shape b.first b.rest b.low b.high

natural-shape : {text : List ℕ} {s : Symbol} → NaturalIs text s → shape_of text ≡ shape.Natural
natural-shape (below_32 d l) = number-shape d
natural-shape (below_64 d l h) = number-shape d
natural-shape (above d l) = number-shape d

abbrev IsSignShape : List ℕ → Type 0
IsSignShape text = (shape_of text ≡ shape.Plus) ⊎ (shape_of text ≡ shape.Minus)

literal-shape : {text : List ℕ} {l : _} → Literal text l → HasSign l → IsSignShape text
literal-shape (unsigned d) h = absurd h
literal-shape (plus d) h = inl refl
literal-shape (minus d) h = inr refl

signed-shape : {text : List ℕ} {s : Symbol} → SignedIs text s → IsSignShape text
signed-shape (of_32 d h f) = literal-shape d h
signed-shape (of_64 d h n f) = literal-shape d h
signed-shape (beyond d h f) = literal-shape d h

offset-shape : (text digits : List ℕ) → text ≡ codes "offset=" ++ digits → shape_of text ≡ shape.Offset
offset-shape text digits e = rw e

align-shape : (text digits : List ℕ) → text ≡ codes "align=" ++ digits → shape_of text ≡ shape.Align
align-shape text digits e = rw e

abbrev NamesOnly : Option (List ℕ) → Type 0
NamesOnly None = Unit {0}
NamesOnly (Some text) = shape_of text ≡ shape.Name

keyword-shape : (k : Kind) → NamesOnly (keyword k)
keyword-shape kind.ThenWord = refl
keyword-shape kind.ElseWord = refl
keyword-shape kind.EndWord = refl
keyword-shape kind.ModuleWord = refl
keyword-shape kind.TypeWord = refl
keyword-shape kind.ImportWord = refl
keyword-shape kind.FuncWord = refl
keyword-shape kind.TableWord = refl
keyword-shape kind.MemoryWord = refl
keyword-shape kind.GlobalWord = refl
keyword-shape kind.ExportWord = refl
keyword-shape kind.StartWord = refl
keyword-shape kind.ElemWord = refl
keyword-shape kind.DataWord = refl
keyword-shape kind.OffsetWord = refl
keyword-shape kind.LocalWord = refl
keyword-shape kind.ParamWord = refl
keyword-shape kind.ResultWord = refl
keyword-shape kind.MutWord = refl
keyword-shape kind.FuncrefWord = refl
keyword-shape _ = tt

keywords-shape : {text : List ℕ} {s : Symbol} → KeywordIs text s → shape_of text ≡ shape.Name
keywords-shape (word k e) = subst NamesOnly e (keyword-shape k)
keywords-shape i32 = refl
keywords-shape i64 = refl
keywords-shape f32 = refl
keywords-shape f64 = refl

simple-shape : (o : SimpleOp) → shape_of (row (op.Simple o)).name ≡ shape.Name
simple-shape simple.Nop = refl
simple-shape _ = refl

index-shape : (o : IndexOp) → shape_of (row (op.Index o)).name ≡ shape.Name
index-shape index.Br = refl
index-shape _ = refl

memory-shape : (o : MemOp) → shape_of (row (op.Mem o)).name ≡ shape.Name
memory-shape memory.I32Load = refl
memory-shape _ = refl

op-shape : (o : Op) → shape_of (row o).name ≡ shape.Name
op-shape (op.Simple o) = simple-shape o
op-shape (op.Index o) = index-shape o
op-shape (op.Mem o) = memory-shape o
op-shape op.BrTable = refl
op-shape op.CallIndirect = refl
op-shape op.I32Const = refl
op-shape op.I64Const = refl
op-shape op.Block = refl
op-shape op.Loop = refl
op-shape op.If = refl

other-first : (c d : ℕ) (rest : List ℕ) → c ≢ d → (v : List ℕ) → bytes_eq (c ∷ rest) (d ∷ v) ≡ false
other-first c d rest n v = go (bytes_eq (c ∷ rest) (d ∷ v)) refl
  where
    go : (b : Bool) → bytes_eq (c ∷ rest) (d ∷ v) ≡ b → b ≡ false
    go true e = let s = (bytes_eq-Decides (c ∷ rest) (d ∷ v)).0 e in absurd (n cc)
    go false e = refl

-- a float's name begins with an f or an i
float-shape : (text : List ℕ) → is_float_name text ≡ true → shape_of text ≡ shape.Name
float-shape [] t = refl
float-shape (c ∷ rest) t = elim (cases_eq c 102) [
  | inl e ↦ rw e
  | inr n ↦ elim (cases_eq c 105) [
    | inl e ↦ rw e
    | inr m ↦
        let a : nat_eq 102 c ≡ false = grind (arith, nat_tests) in
        let x : (v : List ℕ) → bytes_eq (c ∷ rest) (105 ∷ v) ≡ false = other-first c 105 rest m in
        let f : is_float_name (c ∷ rest) ≡ false = rw (
          a,
          x (codes "32.trunc_f32_s"),
          x (codes "32.trunc_f32_u"),
          x (codes "32.trunc_f64_s"),
          x (codes "32.trunc_f64_u"),
          x (codes "64.trunc_f32_s"),
          x (codes "64.trunc_f32_u"),
          x (codes "64.trunc_f64_s"),
          x (codes "64.trunc_f64_u"),
          x (codes "32.reinterpret_f32"),
          x (codes "64.reinterpret_f64"),
        ) in
        absurd cc
  ]
]

name-shape : {text : List ℕ} {s : Symbol} → NameIs text s → shape_of text ≡ shape.Name
name-shape (keyword_is k) = keywords-shape k
name-shape (instruction o e) = sym (ap shape_of e) ∙ op-shape o
name-shape (float {text = text} t) = float-shape text t

-- ---- what a word of a shape may say

abbrev pub SaysAs : Shape → List ℕ → Symbol → Type 0
SaysAs shape.Natural text s = NaturalIs text s
SaysAs shape.Plus text s = SignedIs text s
SaysAs shape.Minus text s = SignedIs text s
SaysAs shape.Offset text s = (digits : List ℕ) × (text ≡ codes "offset=" ++ digits) × OffsetIs digits s
SaysAs shape.Align text s = (digits : List ℕ) × (text ≡ codes "align=" ++ digits) × AlignIs digits s
SaysAs shape.Name text s = NameIs text s

as-shape : (text : List ℕ) (s : Symbol) (x : Shape) → shape_of text ≡ x → SaysAs x text s
    → SaysAs (shape_of text) text s
as-shape text s x e h = rw e h

pub says-as : {text : List ℕ} {s : Symbol} → Says text s → SaysAs (shape_of text) text s
says-as {text} {s} (natural h) = as-shape text s shape.Natural (natural-shape h) h
says-as {text} {s} (signed h) = elim (signed-shape h) [
  | inl e ↦ as-shape text s shape.Plus e h
  | inr e ↦ as-shape text s shape.Minus e h
]
says-as {text} {s} (offset {digits = digits} e h) =
    as-shape text s shape.Offset (offset-shape text digits e) (digits, e, h)
says-as {text} {s} (align {digits = digits} e h) =
    as-shape text s shape.Align (align-shape text digits e) (digits, e, h)
says-as {text} {s} (name h) = as-shape text s shape.Name (name-shape h) h

pub as-says : (x : Shape) (text : List ℕ) (s : Symbol) → SaysAs x text s → Says text s
as-says shape.Natural text s h = natural h
as-says shape.Plus text s h = signed h
as-says shape.Minus text s h = signed h
as-says shape.Offset text s h = offset h.1 h.2
as-says shape.Align text s h = align h.1 h.2
as-says shape.Name text s h = name h

-- a word of this shape, by what it says as such
pub word-is : (text bytes : List ℕ) (x : Shape) (s : Symbol) → x ≡ shape_of bytes → bytes ≡ text
    → OrOther (SaysAs x text) s → WordIs text s
word-is text bytes x s e b (inl h) = known (as-says x text s h)
word-is text bytes x s e b (inr (none, is)) = rw is (other (λ o h. none o (back o (says-as h))))
  where
    same : shape_of text ≡ x
    same = sym (ap shape_of b) ∙ sym e

    back : (o : Symbol) → SaysAs (shape_of text) text o → SaysAs x text o
    back o h = rw same at h

-- ---- what stands behind `offset=` and `align=`

pub prefixed : (text prefix : List ℕ) → starts_with nat_eq text prefix ≡ true
    → text ≡ prefix ++ drop (length prefix) text
prefixed text prefix t =
    let e : prefix ≡ take (length prefix) text = (bytes_eq-Decides prefix (take (length prefix) text)).0 t in
    sym (take-append-drop (length prefix) text) ∙ ap (λ (f : List ℕ). f ++ drop (length prefix) text) (sym e)

-- how a shape is picked
abbrev picked : Bool → Bool → Bool → Bool → Bool → Shape
picked a b c d e =
    if a then shape.Natural
    else (if b then shape.Plus
    else (if c then shape.Minus
    else (if d then shape.Offset
    else (if e then shape.Align
    else shape.Name))))

picked-offset : (a b c d e : Bool) → picked a b c d e ≡ shape.Offset → d ≡ true
picked-offset true b c d e h = cc
picked-offset false true c d e h = cc
picked-offset false false true d e h = cc
picked-offset false false false true e h = refl
picked-offset false false false false true h = cc
picked-offset false false false false false h = cc

picked-align : (a b c d e : Bool) → picked a b c d e ≡ shape.Align → e ≡ true
picked-align true b c d e h = cc
picked-align false true c d e h = cc
picked-align false false true d e h = cc
picked-align false false false true e h = cc
picked-align false false false false true h = refl
picked-align false false false false false h = cc

pub offset-begins : (text : List ℕ) → shape_of text ≡ shape.Offset → text ≡ codes "offset=" ++ drop 7 text
offset-begins [] e = cc
offset-begins (c ∷ rest) e = prefixed (c ∷ rest) (codes "offset=") (and_parts _ _ (picked-offset _ _ _ _ _ e)).1

pub align-begins : (text : List ℕ) → shape_of text ≡ shape.Align → text ≡ codes "align=" ++ drop 6 text
align-begins [] e = cc
align-begins (c ∷ rest) e = prefixed (c ∷ rest) (codes "align=") (and_parts _ _ (picked-align _ _ _ _ _ e)).1

pub behind-offset : (text digits : List ℕ) → IsUtf8 text → text ≡ codes "offset=" ++ digits → IsCharBoundary text 7
behind-offset text digits u e =
    let long : 6 < length text = rw e (omega arith) in
    let ascii : get_or text 6 0 < 128 = rw e (lit< tt) in
    IsCharBoundary-after_ascii text 6 u long ascii

pub behind-align : (text digits : List ℕ) → IsUtf8 text → text ≡ codes "align=" ++ digits → IsCharBoundary text 6
behind-align text digits u e =
    let long : 5 < length text = rw e (omega arith) in
    let ascii : get_or text 5 0 < 128 = rw e (lit< tt) in
    IsCharBoundary-after_ascii text 5 u long ascii
