-- What the value of each kind may be.
use Rattle.std.proofs.Common.{◌≡◌, ℕ, ◌-◌, ◌%◌, ◌^◌, ◌<◌, ◌≤◌, ◌⊎◌, inl, inr, List, Option, Some, None, refl, sym, ap}
use Rattle.std.proofs.Common.{subst, ◌∙◌, arith}
use Rattle.std.proofs.lemmas.Bool.{cases_lt}
use Rattle.wc_ops.specs.declared.op.Op.{Op}
use Rattle.wc_ops.specs.declared.op.Op.TheVariants as op
use Rattle.wc_ops.specs.declared.val_type.ValType.TheVariants as type
use Rattle.wc_tokens.specs.declared.token.TokenKind.{TokenKind}
use Rattle.wc_tokens.specs.declared.token.TokenKind.TheVariants as token
use Rattle.wc_tokens.specs.Standard.Numbers.{Signed, Unsigned, Plus, Minus, Literal, unsigned, plus, minus}
use Rattle.wc_tokens.specs.Standard.Numbers.{FitsBits, bits_of}
use Rattle.wc_syntax.specs.declared.kind.Kind.{Kind}
use Rattle.wc_syntax.specs.declared.kind.Kind.TheVariants as kind
use Rattle.wc_symbols.specs.declared.symbol.Symbol.{Symbol}
use Rattle.wc_symbols.specs.declared.symbol.Value.TheVariants.{Nothing, Number, Instruction}
use Rattle.wc_symbols.specs.Standard.Numbers.{NaturalIs, below_32, below_64, above, HasSign, SignedIs, of_32, of_64}
use Rattle.wc_symbols.specs.Standard.Numbers.{beyond, OffsetIs, offset_number, offset_range, offset_form, AlignIs}
use Rattle.wc_symbols.specs.Standard.Numbers.{align_power, align_no_power, align_range, align_form}
use Rattle.wc_symbols.specs.Standard.Names.{op_kind, keyword, KeywordIs, word, i32, i64, f32, f64, NameIs, keyword_is}
use Rattle.wc_symbols.specs.Standard.Names.{instruction, float}
use Rattle.wc_symbols.specs.Standard.Words.{natural, signed, offset, align, name, WordIs, known, other}
use Rattle.wc_symbols.specs.Standard.Tokens.{StringIs, name as string_name, no_name, TokenIs}
use Rattle.wc_symbols.specs.Standard.Ranges.{FitsKind}
use Rattle.wc_symbols.specs.Standard.Literals.{IsLiteral32, IsLiteral64}
use Rattle.wc_symbols.proofs.Spelling.NumberLemmas.{complement}
use Rattle.wc_symbols.proofs.OneValue.SameSymbols.{WordIs-same}
use Rattle.wc_symbols.proofs.Spelling.StringLemmas.{StringIs-same}

fits-natural : {text : List ℕ} {s : Symbol} → NaturalIs text s → FitsKind s.kind s.value
fits-natural (below_32 {n = n} d l) = (n, refl, l)
fits-natural (below_64 {n = n} d l h) = (n, refl, l, h)
fits-natural (above d l) = refl

signed-32 : (l : Signed) → HasSign l → FitsBits 32 l
    → ((bits_of 64 l < 2 ^ 31) ⊎ (2 ^ 64 - 2 ^ 31 ≤ bits_of 64 l)) × (bits_of 64 l < 2 ^ 64)
signed-32 (Unsigned n) h f = absurd h
signed-32 (Plus n) h f = (inl (omega (arith, f)), omega (arith, f))
signed-32 (Minus n) h f = elim (cases_lt 0 n) [
  | inl p ↦ let k = complement n p (omega (arith, f)) in (inr (omega (arith, f, k)), omega (arith, p, k))
  | inr z ↦
      let none : n ≡ 0 = omega (arith, z) in
      let zero : (2 ^ 64 - n) % 2 ^ 64 ≡ 0 = ap (λ (m : ℕ). (2 ^ 64 - m) % 2 ^ 64) none in
      (inl (omega (arith, zero)), omega (arith, zero))
]

signed-64 : (l : Signed) → HasSign l → ¬ (FitsBits 32 l) → FitsBits 64 l
    → (2 ^ 31 ≤ bits_of 64 l) × (bits_of 64 l < 2 ^ 64 - 2 ^ 31)
signed-64 (Unsigned n) h f g = absurd h
signed-64 (Plus n) h f g = elim (cases_lt n (2 ^ 31)) [
  | inl l ↦ absurd (f l)
  | inr l ↦ (l, omega (arith, g))
]
signed-64 (Minus n) h f g = elim (cases_lt (2 ^ 31) n) [
  | inl l ↦ let k = complement n (omega (arith, l)) g in (omega (arith, g, k), omega (arith, l, k))
  | inr l ↦ absurd (f l)
]

fits-signed : {text : List ℕ} {s : Symbol} → SignedIs text s → FitsKind s.kind s.value
fits-signed (of_32 {l = l} d h f) = let r = signed-32 l h f in (bits_of 64 l, refl, r.0, r.1)
fits-signed (of_64 {l = l} d h n f) = let r = signed-64 l h n f in (bits_of 64 l, refl, r.0, r.1)
fits-signed (beyond d h n) = refl

fits-offset : {text : List ℕ} {s : Symbol} → OffsetIs text s → FitsKind s.kind s.value
fits-offset (offset_number {n = n} d l) = (n, refl, l)
fits-offset (offset_range d l) = refl
fits-offset (offset_form f) = refl

fits-align : {text : List ℕ} {s : Symbol} → AlignIs text s → FitsKind s.kind s.value
fits-align (align_power {e = e} d p l) = (e, refl, l)
fits-align (align_no_power d l p) = refl
fits-align (align_range d l) = refl
fits-align (align_form f) = refl

abbrev IfWord : Kind → Option (List ℕ) → Type 0
IfWord k None = Unit {0}
IfWord k (Some text) = FitsKind k Nothing

fits-word : (k : Kind) → IfWord k (keyword k)
fits-word kind.ThenWord = refl
fits-word kind.ElseWord = refl
fits-word kind.EndWord = refl
fits-word kind.ModuleWord = refl
fits-word kind.TypeWord = refl
fits-word kind.ImportWord = refl
fits-word kind.FuncWord = refl
fits-word kind.TableWord = refl
fits-word kind.MemoryWord = refl
fits-word kind.GlobalWord = refl
fits-word kind.ExportWord = refl
fits-word kind.StartWord = refl
fits-word kind.ElemWord = refl
fits-word kind.DataWord = refl
fits-word kind.OffsetWord = refl
fits-word kind.LocalWord = refl
fits-word kind.ParamWord = refl
fits-word kind.ResultWord = refl
fits-word kind.MutWord = refl
fits-word kind.FuncrefWord = refl
fits-word _ = tt

fits-op : (o : Op) → FitsKind (op_kind o) (Instruction o)
fits-op (op.Simple o) = (o, refl)
fits-op (op.Index o) = (o, refl)
fits-op (op.Mem o) = (o, refl)
fits-op op.BrTable = refl
fits-op op.CallIndirect = refl
fits-op op.I32Const = refl
fits-op op.I64Const = refl
fits-op op.Block = inl refl
fits-op op.Loop = inr refl
fits-op op.If = refl

fits-keyword : {text : List ℕ} {s : Symbol} → KeywordIs text s → FitsKind s.kind s.value
fits-keyword (word k e) = subst (IfWord k) e (fits-word k)
fits-keyword i32 = (type.I32, refl)
fits-keyword i64 = (type.I64, refl)
fits-keyword f32 = refl
fits-keyword f64 = refl

fits-name : {text : List ℕ} {s : Symbol} → NameIs text s → FitsKind s.kind s.value
fits-name (keyword_is h) = fits-keyword h
fits-name (instruction o e) = fits-op o
fits-name (float t) = refl

pub fits-WordIs : {text : List ℕ} {s : Symbol} → WordIs text s → FitsKind s.kind s.value
fits-WordIs (known (natural h)) = fits-natural h
fits-WordIs (known (signed h)) = fits-signed h
fits-WordIs (known (offset e h)) = fits-offset h
fits-WordIs (known (align e h)) = fits-align h
fits-WordIs (known (name h)) = fits-name h
fits-WordIs (other n) = refl

pub fits-StringIs : {text : List ℕ} {s : Symbol} → StringIs text s → FitsKind s.kind s.value
fits-StringIs (string_name i u) = refl
fits-StringIs (no_name i u) = refl

-- ---- literals

literal-32 : (s : Symbol) (l : Signed) (k : Kind) (b : ℕ) → s ≡ record { kind = k; value = Number b }
    → (k ≡ kind.Natural32) ⊎ (k ≡ kind.Signed32) → b % 2 ^ 32 ≡ bits_of 32 l → IsLiteral32 s l
literal-32 s l k b e h low = record {
  kind_is = rw e h;
  bits = b;
  value_is = ap (λ (o : Symbol). o.value) e;
  lower = low;
}

lower-minus : (n : ℕ) → n ≤ 2 ^ 31 → ((2 ^ 64 - n) % 2 ^ 64) % 2 ^ 32 ≡ (2 ^ 32 - n) % 2 ^ 32
lower-minus n f = elim (cases_lt 0 n) [
  | inl p ↦
      let k = complement n p (omega (arith, f)) in
      let l : (2 ^ 64 - n) % 2 ^ 32 ≡ (2 ^ 32 - n) % 2 ^ 32 = omega (arith, f, p) in
      ap (λ (m : ℕ). m % 2 ^ 32) k ∙ l
  | inr z ↦
      let none : n ≡ 0 = omega (arith, z) in
      rw none refl
]

pub has-32 : (text : List ℕ) (s : Symbol) (l : Signed) → WordIs text s → Literal text l → FitsBits 32 l
    → IsLiteral32 s l
has-32 text s (Unsigned n) w (unsigned d) f =
    literal-32 s (Unsigned n) kind.Natural32 n (WordIs-same w (known (natural (below_32 d f)))) (inl refl)
    (omega (arith, f))
has-32 text s (Plus n) w (plus d) f =
    literal-32 s (Plus n) kind.Signed32 n (WordIs-same w (known (signed (of_32 (plus d) tt f)))) (inr refl)
    (omega (arith, f))
has-32 text s (Minus n) w (minus d) f =
    literal-32 s (Minus n) kind.Signed32 (bits_of 64 (Minus n)) (WordIs-same w (known (signed (of_32 (minus d) tt f))))
    (inr refl)
    (lower-minus n f)

abbrev Is64 : Kind → Type 0
Is64 k = ((k ≡ kind.Natural32) ⊎ (k ≡ kind.Natural64)) ⊎ ((k ≡ kind.Signed32) ⊎ (k ≡ kind.Signed64))

literal-64 : (s : Symbol) (l : Signed) (k : Kind) → s ≡ record { kind = k; value = Number (bits_of 64 l) } → Is64 k
    → IsLiteral64 s l
literal-64 s l k e h = record { kind_is = rw e h; value_is = ap (λ (o : Symbol). o.value) e }

pub has-64 : (text : List ℕ) (s : Symbol) (l : Signed) → WordIs text s → Literal text l → FitsBits 64 l
    → IsLiteral64 s l
has-64 text s (Unsigned n) w (unsigned d) f = elim (cases_lt n (2 ^ 32)) [
  | inl h ↦ literal-64 s (Unsigned n) kind.Natural32 (WordIs-same w (known (natural (below_32 d h)))) (inl (inl refl))
  | inr h ↦ literal-64 s (Unsigned n) kind.Natural64 (WordIs-same w (known (natural (below_64 d h f)))) (inl (inr refl))
]
has-64 text s (Plus n) w (plus d) f = elim (cases_lt n (2 ^ 31)) [
  | inl h ↦ literal-64 s (Plus n) kind.Signed32 (WordIs-same w (known (signed (of_32 (plus d) tt h)))) (inr (inl refl))
  | inr h ↦
      let out : ¬ (FitsBits 32 (Plus n)) = λ g. omega (arith, g, h) in
      literal-64 s (Plus n) kind.Signed64 (WordIs-same w (known (signed (of_64 (plus d) tt out f)))) (inr (inr refl))
]
has-64 text s (Minus n) w (minus d) f = elim (cases_lt (2 ^ 31) n) [
  | inl h ↦
      let out : ¬ (FitsBits 32 (Minus n)) = λ g. omega (arith, g, h) in
      literal-64 s (Minus n) kind.Signed64 (WordIs-same w (known (signed (of_64 (minus d) tt out f)))) (inr (inr refl))
  | inr h ↦ literal-64 s (Minus n) kind.Signed32 (WordIs-same w (known (signed (of_32 (minus d) tt h))))
      (inr (inl refl))
]

-- ---- one symbol

pub TokenIs-same : (k : TokenKind) (text : List ℕ) (s o : Symbol) → TokenIs k text s → TokenIs k text o → s ≡ o
TokenIs-same token.Open text s o h k = h ∙ sym k
TokenIs-same token.Close text s o h k = h ∙ sym k
TokenIs-same token.Id text s o h k = h ∙ sym k
TokenIs-same token.Str text s o h k = StringIs-same h k
TokenIs-same token.Word text s o h k = WordIs-same h k
