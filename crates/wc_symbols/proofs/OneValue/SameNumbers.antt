-- A word says one number.
use Rattle.std.proofs.Common.{◌≡◌, ℕ, ◌^◌, ◌<◌, List, refl, sym, ap, subst, ◌∙◌, inl, inr, arith}
use Rattle.std.proofs.lemmas.Bool.{cases_lt}
use Rattle.std.proofs.lemmas.Nat.{pow_below}
use Rattle.wc_tokens.specs.Standard.Numbers.{Signed, Unsigned, Plus, Minus, Literal, unsigned, plus, minus}
use Rattle.wc_tokens.specs.Standard.Numbers.{FitsBits, bits_of}
use Rattle.wc_tokens.proofs.Integers.Literals.{same-Natural}
use Rattle.wc_syntax.specs.declared.kind.Kind.TheVariants as kind
use Rattle.wc_symbols.specs.declared.symbol.Symbol.{Symbol}
use Rattle.wc_symbols.specs.declared.symbol.Value.TheVariants.{Number, Offset, Exponent}
use Rattle.wc_symbols.specs.Standard.Symbols.{valued}
use Rattle.wc_symbols.specs.Standard.Numbers.{NaturalIs, below_32, below_64, above, HasSign, SignedIs, of_32, of_64}
use Rattle.wc_symbols.specs.Standard.Numbers.{beyond, OffsetIs, offset_number, offset_range, offset_form, AlignIs}
use Rattle.wc_symbols.specs.Standard.Numbers.{align_power, align_no_power, align_range, align_form}

pub NaturalIs-same : {text : List ℕ} {s o : Symbol} → NaturalIs text s → NaturalIs text o → s ≡ o
NaturalIs-same (below_32 d l) (below_32 e m) =
    ap (λ (n : ℕ). valued kind.Natural32 (Number n)) (same-Natural d e (omega (arith, l)))
NaturalIs-same (below_32 d l) (below_64 e m h) = let s = same-Natural d e (omega (arith, l)) in
    absurd (omega (arith, s, l, m))
NaturalIs-same (below_32 d l) (above e m) = let s = same-Natural d e (omega (arith, l)) in
    absurd (omega (arith, s, l, m))
NaturalIs-same (below_64 d l h) (below_32 e m) = let s = same-Natural d e h in absurd (omega (arith, s, l, m))
NaturalIs-same (below_64 d l h) (below_64 e m k) =
    ap (λ (n : ℕ). valued kind.Natural64 (Number n)) (same-Natural d e h)
NaturalIs-same (below_64 d l h) (above e m) = let s = same-Natural d e h in absurd (omega (arith, s, h, m))
NaturalIs-same (above d l) (below_32 e m) = let s = same-Natural e d (omega (arith, m)) in
    absurd (omega (arith, s, l, m))
NaturalIs-same (above d l) (below_64 e m k) = let s = same-Natural e d k in absurd (omega (arith, s, l, k))
NaturalIs-same (above d l) (above e m) = refl

pub OffsetIs-same : {text : List ℕ} {s o : Symbol} → OffsetIs text s → OffsetIs text o → s ≡ o
OffsetIs-same (offset_number d l) (offset_number e m) =
    ap (λ (n : ℕ). valued kind.MemOffset (Offset n)) (same-Natural d e (omega (arith, l)))
OffsetIs-same (offset_number d l) (offset_range e m) =
    let s = same-Natural d e (omega (arith, l)) in absurd (omega (arith, s, l, m))
OffsetIs-same (offset_number d l) (offset_form f) = absurd (f _ d)
OffsetIs-same (offset_range d l) (offset_number e m) =
    let s = same-Natural e d (omega (arith, m)) in absurd (omega (arith, s, l, m))
OffsetIs-same (offset_range d l) (offset_range e m) = refl
OffsetIs-same (offset_range d l) (offset_form f) = absurd (f _ d)
OffsetIs-same (offset_form f) (offset_number e m) = absurd (f _ e)
OffsetIs-same (offset_form f) (offset_range e m) = absurd (f _ e)
OffsetIs-same (offset_form f) (offset_form g) = refl

power-one : (d e : ℕ) → 2 ^ d ≡ 2 ^ e → d ≡ e
power-one d e p = elim (cases_lt d e) [
  | inl l ↦ let h = pow_below d e l in absurd (omega (arith, h, p))
  | inr l ↦ elim (cases_lt e d) [
    | inl m ↦ let h = pow_below e d m in absurd (omega (arith, h, p))
    | inr m ↦ omega (arith, l, m)
  ]
]

power-small : (n e : ℕ) → n ≡ 2 ^ e → e < 32 → n < 2 ^ 32
power-small n e p l = let h = pow_below e 32 l in omega (arith, h, p)

pub AlignIs-same : {text : List ℕ} {s o : Symbol} → AlignIs text s → AlignIs text o → s ≡ o
AlignIs-same (align_power d p l) (align_power e q m) =
    let small = power-small _ _ p l in
    let s = same-Natural d e (omega (arith, small)) in
    ap (λ (x : ℕ). valued kind.MemAlign (Exponent x)) (power-one _ _ (sym p ∙ s ∙ q))
AlignIs-same (align_power d p l) (align_no_power e m q) =
    let s = same-Natural e d (omega (arith, m)) in absurd (q _ (s ∙ p))
AlignIs-same (align_power d p l) (align_range e m) =
    let small = power-small _ _ p l in
    let s = same-Natural d e (omega (arith, small)) in
    absurd (omega (arith, s, small, m))
AlignIs-same (align_power d p l) (align_form f) = absurd (f _ d)
AlignIs-same (align_no_power d l p) (align_power e q m) =
    let s = same-Natural d e (omega (arith, l)) in absurd (p _ (s ∙ q))
AlignIs-same (align_no_power d l p) (align_no_power e m q) = refl
AlignIs-same (align_no_power d l p) (align_range e m) =
    let s = same-Natural d e (omega (arith, l)) in absurd (omega (arith, s, l, m))
AlignIs-same (align_no_power d l p) (align_form f) = absurd (f _ d)
AlignIs-same (align_range d l) (align_power e q m) =
    let small = power-small _ _ q m in
    let s = same-Natural e d (omega (arith, small)) in
    absurd (omega (arith, s, small, l))
AlignIs-same (align_range d l) (align_no_power e m q) =
    let s = same-Natural e d (omega (arith, m)) in absurd (omega (arith, s, l, m))
AlignIs-same (align_range d l) (align_range e m) = refl
AlignIs-same (align_range d l) (align_form f) = absurd (f _ d)
AlignIs-same (align_form f) (align_power e q m) = absurd (f _ e)
AlignIs-same (align_form f) (align_no_power e m q) = absurd (f _ e)
AlignIs-same (align_form f) (align_range e m) = absurd (f _ e)
AlignIs-same (align_form f) (align_form g) = refl

-- ---- numbers behind a sign

fits-64 : (l : Signed) → FitsBits 32 l → FitsBits 64 l
fits-64 (Unsigned n) f = omega (arith, f)
fits-64 (Plus n) f = omega (arith, f)
fits-64 (Minus n) f = omega (arith, f)

same-literal : {text : List ℕ} {l m : Signed} → Literal text l → Literal text m → HasSign l → HasSign m
    → FitsBits 64 l → l ≡ m
same-literal (unsigned d) e h k f = absurd h
same-literal (plus d) (unsigned e) h k f = absurd k
same-literal (plus d) (plus e) h k f = ap Plus (same-Natural d e (omega (arith, f)))
same-literal (minus d) (unsigned e) h k f = absurd k
same-literal (minus d) (minus e) h k f = ap Minus (same-Natural d e (omega (arith, f)))

pub SignedIs-same : {text : List ℕ} {s o : Symbol} → SignedIs text s → SignedIs text o → s ≡ o
SignedIs-same (of_32 {l = l} d h f) (of_32 e k g) =
    ap (λ (x : Signed). valued kind.Signed32 (Number (bits_of 64 x))) (same-literal d e h k (fits-64 l f))
SignedIs-same (of_32 {l = l} d h f) (of_64 e k n g) =
    absurd (n (subst (FitsBits 32) (same-literal d e h k (fits-64 l f)) f))
SignedIs-same (of_32 {l = l} d h f) (beyond e k n) =
    absurd (n (subst (FitsBits 64) (same-literal d e h k (fits-64 l f)) (fits-64 l f)))
SignedIs-same (of_64 d h n f) (of_32 e k g) = absurd (n (subst (FitsBits 32) (sym (same-literal d e h k f)) g))
SignedIs-same (of_64 d h n f) (of_64 e k m g) =
    ap (λ (x : Signed). valued kind.Signed64 (Number (bits_of 64 x))) (same-literal d e h k f)
SignedIs-same (of_64 d h n f) (beyond e k m) = absurd (m (subst (FitsBits 64) (same-literal d e h k f) f))
SignedIs-same (beyond d h n) (of_32 {l = l} e k g) =
    absurd (n (subst (FitsBits 64) (same-literal e d k h (fits-64 l g)) (fits-64 l g)))
SignedIs-same (beyond d h n) (of_64 e k m g) = absurd (n (subst (FitsBits 64) (same-literal e d k h g) g))
SignedIs-same (beyond d h n) (beyond e k m) = refl
