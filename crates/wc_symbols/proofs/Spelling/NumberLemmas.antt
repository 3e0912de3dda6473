-- What words say as numbers.
use Rattle.std.proofs.Common.{◌≡◌, ◌≢◌, ℕ, ◌+◌, ◌-◌, ◌%◌, ◌^◌, ◌<◌, ◌≤◌, List, ◌∷◌, length, arith}
use Rattle.std.proofs.Common.{◌⊎◌, inl, inr, ap, ◌∙◌, subst, drop, take, length-drop}
use Rattle.std.proofs.lemmas.List.{take_all}
use Rattle.std.proofs.lemmas.Bool.{cases_lt}
use Rattle.std.proofs.Math.Pow.{pow_mono}
use Rattle.wc_tokens.specs.Standard.Digits.{Digits}
use Rattle.wc_tokens.specs.Standard.Numbers.{Natural, Signed, Unsigned, Plus, Minus, Literal, unsigned, plus, minus}
use Rattle.wc_tokens.specs.Standard.Numbers.{decimal, FitsBits, bits_of}
use Rattle.wc_syntax.specs.declared.kind.Kind.TheVariants as kind
use Rattle.wc_symbols.specs.declared.symbol.Symbol.{Symbol}
use Rattle.wc_symbols.specs.declared.symbol.Value.TheVariants.{Number, Offset, Exponent}
use Rattle.wc_symbols.specs.Standard.Symbols.{bare, valued, OrOther}
use Rattle.wc_symbols.specs.Standard.Numbers.{NaturalIs, below_32, below_64, above, HasSign, SignedIs, of_32, of_64}
use Rattle.wc_symbols.specs.Standard.Numbers.{beyond, OffsetIs, offset_number, offset_range, offset_form, AlignIs}
use Rattle.wc_symbols.specs.Standard.Numbers.{align_power, align_no_power, align_range, align_form}
use Rattle.wc_symbols.proofs.Spelling.DigitLemmas.{begins}

pub natural-32 : (text : List ℕ) (n : ℕ) (s : Symbol) → Natural text n → n < 2 ^ 32
    → s ≡ valued kind.Natural32 (Number n) → OrOther (NaturalIs text) s
natural-32 text n s d l e = inl (rw e (below_32 d l))

pub natural-64 : (text : List ℕ) (n : ℕ) (s : Symbol) → Natural text n → 2 ^ 32 ≤ n → n < 2 ^ 64
    → s ≡ valued kind.Natural64 (Number n) → OrOther (NaturalIs text) s
natural-64 text n s d l h e = inl (rw e (below_64 d l h))

pub natural-above : (text : List ℕ) (n : ℕ) (s : Symbol) → Natural text n → 2 ^ 64 ≤ n → s ≡ bare kind.Natural
    → OrOther (NaturalIs text) s
natural-above text n s d l e = inl (rw e (above d l))

pub natural-none : (text : List ℕ) (s : Symbol) → ((n : ℕ) → ¬ (Natural text n)) → s ≡ bare kind.OtherWord
    → OrOther (NaturalIs text) s
natural-none text s absent e = inr ((λ o h. none h), e)
  where
    none : {o : Symbol} → NaturalIs text o → ⊥
    none (below_32 {n = n} d l) = absent n d
    none (below_64 {n = n} d l h) = absent n d
    none (above {n = n} d l) = absent n d

-- ---- numbers behind a sign

-- the text begins with a sign
abbrev pub IsSigned : List ℕ → Type 0
IsSigned text = (digits : List ℕ) × ((text ≡ 43 ∷ digits) ⊎ (text ≡ 45 ∷ digits))

pub has-sign : {text : List ℕ} {l : Signed} → Literal text l → IsSigned text → HasSign l
has-sign (unsigned d) s = elim s.1 [
  | inl e ↦ let b = begins d in let f : b.first ≡ 43 = cc (b.text_is, e) in absurd (omega (arith, f, b.low))
  | inr e ↦ let b = begins d in let f : b.first ≡ 45 = cc (b.text_is, e) in absurd (omega (arith, f, b.low))
]
has-sign (plus d) s = tt
has-sign (minus d) s = tt

pub complement : (n : ℕ) → 0 < n → n ≤ 2 ^ 63 → (2 ^ 64 - n) % 2 ^ 64 ≡ 2 ^ 64 - n
complement n p l = omega arith

pub fits-32 : (l : Signed) (b : ℕ) → HasSign l → FitsBits 64 l → b ≡ bits_of 64 l
    → (b ≤ 2147483647) ⊎ (18446744071562067968 ≤ b) → FitsBits 32 l
fits-32 (Unsigned n) b h f e r = absurd h
fits-32 (Plus n) b h f e (inl r) = omega (arith, f, e, r)
fits-32 (Plus n) b h f e (inr r) = absurd (omega (arith, f, e, r))
fits-32 (Minus n) b h f e r = elim (cases_lt 0 n) [
  | inl p ↦ let k = complement n p f in elim r [
    | inl x ↦ omega (arith, f, e, x, k)
    | inr x ↦ omega (arith, f, e, x, k)
  ]
  | inr z ↦ omega (arith, z)
]

pub not-fits-32 : (l : Signed) (b : ℕ) → HasSign l → FitsBits 64 l → b ≡ bits_of 64 l → 2147483647 < b
    → b < 18446744071562067968 → ¬ (FitsBits 32 l)
not-fits-32 (Unsigned n) b h f e low high = absurd h
not-fits-32 (Plus n) b h f e low high = λ k. omega (arith, f, e, low, k)
not-fits-32 (Minus n) b h f e low high = elim (cases_lt 0 n) [
  | inl p ↦ let k = complement n p f in λ x. omega (arith, f, e, high, k, x)
  | inr z ↦
      let none : n ≡ 0 = omega (arith, z) in
      let zero : b ≡ 0 = e ∙ ap (λ (m : ℕ). (2 ^ 64 - m) % 2 ^ 64) none in
      λ x. omega (arith, zero, low)
]

pub signed-32 : (text : List ℕ) (l : Signed) (b : ℕ) (s : Symbol) → IsSigned text → Literal text l → FitsBits 64 l
    → b ≡ bits_of 64 l → (b ≤ 2147483647) ⊎ (18446744071562067968 ≤ b) → s ≡ valued kind.Signed32 (Number b)
    → OrOther (SignedIs text) s
signed-32 text l b s g d f e r is =
    let h = has-sign d g in
    inl (rw (is, e) (of_32 d h (fits-32 l b h f e r)))

pub signed-64 : (text : List ℕ) (l : Signed) (b : ℕ) (s : Symbol) → IsSigned text → Literal text l → FitsBits 64 l
    → b ≡ bits_of 64 l → 2147483647 < b → b < 18446744071562067968 → s ≡ valued kind.Signed64 (Number b)
    → OrOther (SignedIs text) s
signed-64 text l b s g d f e low high is =
    let h = has-sign d g in
    inl (rw (is, e) (of_64 d h (not-fits-32 l b h f e low high) f))

pub signed-beyond : (text : List ℕ) (l : Signed) (s : Symbol) → IsSigned text → Literal text l → ¬ (FitsBits 64 l)
    → s ≡ bare kind.Signed → OrOther (SignedIs text) s
signed-beyond text l s g d f is = inl (rw is (beyond d (has-sign d g) f))

pub signed-none : (text : List ℕ) (s : Symbol) → ((l : Signed) → ¬ (Literal text l)) → s ≡ bare kind.OtherWord
    → OrOther (SignedIs text) s
signed-none text s absent e = inr ((λ o h. none h), e)
  where
    none : {o : Symbol} → SignedIs text o → ⊥
    none (of_32 {l = l} d h f) = absent l d
    none (of_64 {l = l} d h n f) = absent l d
    none (beyond {l = l} d h f) = absent l d

-- ---- powers of two

pub no-power-before : (n e : ℕ) → n < 2 ^ 32 → ((k : ℕ) → k < e → n ≢ 2 ^ k) → 32 ≤ e → (k : ℕ) → n ≢ 2 ^ k
no-power-before n e small before done k is = elim (cases_lt k 32) [
  | inl l ↦ before k (omega (arith, l, done)) is
  | inr l ↦ let p : 2 ^ 32 ≤ 2 ^ k = pow_mono l in absurd (omega (arith, p, is, small))
]

-- ---- offsets and alignments

pub offset-number : (text : List ℕ) (n : ℕ) (s : Symbol) → Natural text n → n < 2 ^ 32
    → s ≡ valued kind.MemOffset (Offset n) → OffsetIs text s
offset-number text n s d l e = rw e (offset_number d l)

pub offset-range : (text : List ℕ) (s : Symbol) → ((n : ℕ) × Natural text n × (2 ^ 32 ≤ n))
    → s ≡ bare kind.MemOffsetRange → OffsetIs text s
offset-range text s d e = rw e (offset_range d.1 d.2)

pub offset-form : (text : List ℕ) (s : Symbol) → ((n : ℕ) → ¬ (Natural text n)) → s ≡ bare kind.MemOffsetForm
    → OffsetIs text s
offset-form text s d e = rw e (offset_form d)

pub align-power : (text : List ℕ) (n e : ℕ) (s : Symbol) → Natural text n → n ≡ 2 ^ e → e < 32
    → s ≡ valued kind.MemAlign (Exponent e) → AlignIs text s
align-power text n e s d p l is = rw is (align_power d p l)

pub align-none : (text : List ℕ) (n : ℕ) (s : Symbol) → Natural text n → n < 2 ^ 32 → ((e : ℕ) → n ≢ 2 ^ e)
    → s ≡ bare kind.MemAlignPower → AlignIs text s
align-none text n s d l p is = rw is (align_no_power d l p)

pub align-range : (text : List ℕ) (s : Symbol) → ((n : ℕ) × Natural text n × (2 ^ 32 ≤ n))
    → s ≡ bare kind.MemAlignRange → AlignIs text s
align-range text s d e = rw e (align_range d.1 d.2)

pub align-form : (text : List ℕ) (s : Symbol) → ((n : ℕ) → ¬ (Natural text n)) → s ≡ bare kind.MemAlignForm
    → AlignIs text s
align-form text s d e = rw e (align_form d)

-- ---- a few digits behind a sign

pub short-plus : (text tail : List ℕ) (n : ℕ) (s : Symbol) → ((digits : List ℕ) × (text ≡ 43 ∷ digits))
    → tail ≡ drop 1 text → Digits 10 tail n → n < 10 ^ 9 → s ≡ valued kind.Signed32 (Number n)
    → OrOther (SignedIs text) s
short-plus text tail n s (digits, t) d h l is =
    let same : tail ≡ digits = d ∙ ap (drop 1) t in
    let literal : Literal text (Plus n) = rw t (plus (decimal (subst (λ (x : List ℕ). Digits 10 x n) same h))) in
    inl (rw is (of_32 literal tt (omega (arith, l))))

pub short-minus : (text tail : List ℕ) (n b : ℕ) (s : Symbol) → ((digits : List ℕ) × (text ≡ 45 ∷ digits))
    → tail ≡ drop 1 text → Digits 10 tail n → n < 10 ^ 9 → b ≡ bits_of 64 (Minus n)
    → s ≡ valued kind.Signed32 (Number b) → OrOther (SignedIs text) s
short-minus text tail n b s (digits, t) d h l e is =
    let same : tail ≡ digits = d ∙ ap (drop 1) t in
    let literal : Literal text (Minus n) = rw t (minus (decimal (subst (λ (x : List ℕ). Digits 10 x n) same h))) in
    inl (rw (is, e) (of_32 literal tt (omega (arith, l))))

-- what stands behind the first byte
pub tail-is : (text bytes : List ℕ) → bytes ≡ text → take (length bytes - 1) (drop 1 bytes) ≡ drop 1 text
tail-is text bytes e =
    take_all (length bytes - 1) (drop 1 bytes) (omega (arith, length-drop 1 bytes)) ∙ ap (drop 1) e

-- a number counted back from 2^64
pub wrapped : (r n : ℕ) → r < 2 ^ 64 → n < 10 ^ 9 → (r + n) % 2 ^ 64 ≡ 0 → r ≡ (2 ^ 64 - n) % 2 ^ 64
wrapped r n l h e = elim (cases_lt 0 n) [
  | inl p ↦ let k = complement n p (omega (arith, h)) in omega (arith, e, l, h, p, k)
  | inr z ↦
      let none : n ≡ 0 = omega (arith, z) in
      let zero : (2 ^ 64 - n) % 2 ^ 64 ≡ 0 = ap (λ (m : ℕ). (2 ^ 64 - m) % 2 ^ 64) none in
      omega (arith, e, l, none, zero)
]
