-- What a word reads as, from the digits that are scanned.
use Rattle.std.proofs.Common.{◌≡◌, ◌≢◌, ℕ, ◌^◌, ◌<◌, ◌≤◌, false, List, [], ◌∷◌, length, Option, Some, None, refl, sym}
use Rattle.std.proofs.Common.{ap, subst, ◌∙◌, append-nil, inl, inr, arith}
use Rattle.std.proofs.lemmas.Bool.{cases_lt}
use Rattle.wc_tokens.specs.Standard.Digits.{digit_of, Digits}
use Rattle.wc_tokens.specs.Reading.Scans.{extended, fitting, scan}
use Rattle.wc_tokens.specs.Standard.Numbers.{Natural, decimal, hexadecimal}
use Rattle.wc_tokens.specs.Reading.Numbers.{IsNum}
use Rattle.wc_tokens.specs.declared.numbers.Num.{Num}
use Rattle.wc_tokens.specs.declared.numbers.Num.TheVariants.{Value, Range, NotANumber}
use Rattle.wc_tokens.proofs.Integers.Scans.{lt-true, lt-false, scan-digit, scan-other}
use Rattle.wc_tokens.proofs.Integers.DigitLaws.{scan-whole, Found-scan}

pub fitting-some : (n m : ℕ) → fitting n ≡ Some m → (m ≡ n) × (n < 2 ^ 64)
fitting-some n m e = elim (cases_lt n (2 ^ 64)) [
  | inl l ↦ let f = lt-true n (2 ^ 64) l in let g : Some n ≡ Some m = rw f at e in (cc, l)
  | inr l ↦ let f = lt-false n (2 ^ 64) l in let g : None ≡ Some m = rw f at e in absurd cc
]

pub fitting-none : (n : ℕ) → fitting n ≡ None → 2 ^ 64 ≤ n
fitting-none n e = elim (cases_lt n (2 ^ 64)) [
  | inl l ↦ let f = lt-true n (2 ^ 64) l in let g : Some n ≡ None = rw f at e in absurd cc
  | inr l ↦ l
]

pub fitting-small : (n : ℕ) → n < 2 ^ 64 → fitting n ≡ Some n
fitting-small n l = let f = lt-true n (2 ^ 64) l in rw f

pub Scanned : Type 0
Scanned = Option (Option ℕ × List ℕ)

module _ (base : ℕ) (pos : 0 < base) (low : base ≤ 36) where
  -- no digits at all
  pub no-digits : (text : List ℕ) → ◌≡◌ {A = Option (Option ℕ × List ℕ)} None (scan base false (Some 0) text) → (n : ℕ)
      → ¬ (Digits base text n)
  no-digits text e n ds =
      let f = scan-whole base pos low ds in
      let g : ◌≡◌ {A = Option (Option ℕ × List ℕ)} None (Some (fitting n, [])) = e ∙ f in absurd cc

  -- something behind the digits
  pub more-behind : (text rest : List ℕ) (value : Option ℕ) → 0 < length rest
      → ◌≡◌ {A = Option (Option ℕ × List ℕ)} (Some (value, rest)) (scan base false (Some 0) text) → (n : ℕ)
      → ¬ (Digits base text n)
  more-behind text rest value l e n ds =
      let f = scan-whole base pos low ds in
      let g : ◌≡◌ {A = Option (Option ℕ × List ℕ)} (Some (value, rest)) (Some (fitting n, [])) = e ∙ f in
      let pair : ◌≡◌ {A = Option ℕ × List ℕ} (value, rest) (fitting n, []) = cc in
      let none : rest ≡ [] = ap (λ (p : Option ℕ × List ℕ). p.1) pair in
      absurd (omega (arith, ap length none))

  -- nothing behind them
  pub all-digits : (text rest : List ℕ) (value : Option ℕ) → length rest ≡ 0
      → ◌≡◌ {A = Option (Option ℕ × List ℕ)} (Some (value, rest)) (scan base false (Some 0) text)
      → (n : ℕ) × Digits base text n × (value ≡ fitting n)
  all-digits text [] value l e =
      let f = Found-scan base pos low text false (Some 0) [] [] value (inl (refl, refl)) (sym e) in
      let whole : text ≡ f.run = f.text_is ∙ append-nil f.run in
      (f.number, subst (λ (t : List ℕ). Digits base t f.number) (sym whole) f.digits, f.value_is)
  all-digits text (c ∷ rest) value l e = absurd (omega arith)

-- ---- natural numbers

-- `0x` isn't decimal
not-decimal : (digits : List ℕ) (n : ℕ) → ¬ (Digits 10 (48 ∷ 120 ∷ digits) n)
unfolding digit_of
not-decimal digits n ds =
    let zero-digit : digit_of 48 < 10 = omega arith in
    let x-digit : 10 ≤ digit_of 120 = omega arith in
    let not-apart : ◌≢◌ {A = ℕ} 120 95 = omega arith in
    let all = scan-whole 10 (omega arith) (omega arith) ds in
    let first = scan-digit 10 false (Some 0) 48 (120 ∷ digits) zero-digit in
    let next = scan-other 10 (extended 10 (Some 0) (digit_of 48)) 120 digits x-digit not-apart in
    let whole : ◌≡◌ {A = Option (Option ℕ × List ℕ)} (Some (extended 10 (Some 0) (digit_of 48), 120 ∷ digits))
    (Some (fitting n, [])) = sym next
    ∙ sym first ∙ all in
    let pair : ◌≡◌ {A = Option ℕ × List ℕ} (extended 10 (Some 0) (digit_of 48), 120 ∷ digits) (fitting n, []) = cc in
    let none : 120 ∷ digits ≡ [] = ap (λ (p : Option ℕ × List ℕ). p.1) pair in
    absurd cc

same-Digits : (base : ℕ) → 0 < base → base ≤ 36 → {text : List ℕ} {a b : ℕ} → Digits base text a → Digits base text b
    → fitting a ≡ fitting b
same-Digits base pos low {text} {a} {b} d e =
    let all : ◌≡◌ {A = Option (Option ℕ × List ℕ)} (Some (fitting a, [])) (Some (fitting b, [])) = sym
    (scan-whole base pos low d)
    ∙ scan-whole base pos low e in
    let pair : ◌≡◌ {A = Option ℕ × List ℕ} (fitting a, []) (fitting b, []) = cc in
    ap (λ (p : Option ℕ × List ℕ). p.0) pair

pub same-fitting : {text : List ℕ} {a b : ℕ} → Natural text a → Natural text b → fitting a ≡ fitting b
same-fitting (decimal d) (decimal e) = same-Digits 10 (omega arith) (omega arith) d e
same-fitting (decimal d) (hexadecimal e) = absurd (not-decimal _ _ d)
same-fitting (hexadecimal d) (decimal e) = absurd (not-decimal _ _ e)
same-fitting (hexadecimal d) (hexadecimal e) = same-Digits 16 (omega arith) (omega arith) d e

-- `0x` and hexadecimal digits, or else decimal digits
pub IsNum-hexadecimal : (number : Num) (limit : ℕ) (digits text : List ℕ) → text ≡ 48 ∷ 120 ∷ digits
    → IsNum (Digits 16 digits) limit number → IsNum (Natural text) limit number
IsNum-hexadecimal (Value n) limit digits text e r = (rw e (hexadecimal r.0), r.1)
IsNum-hexadecimal Range limit digits text e r = (r.0, rw e (hexadecimal r.1), r.2)
IsNum-hexadecimal NotANumber limit digits text e r = λ n h. go (rw e at h)
  where
    go : {n : ℕ} → Natural (48 ∷ 120 ∷ digits) n → ⊥
    go (decimal d) = not-decimal _ _ d
    go (hexadecimal d) = r _ d

pub IsNum-decimal : (number : Num) (limit : ℕ) (text : List ℕ) → ((digits : List ℕ) → text ≢ 48 ∷ 120 ∷ digits)
    → IsNum (Digits 10 text) limit number → IsNum (Natural text) limit number
IsNum-decimal (Value n) limit text e r = (decimal r.0, r.1)
IsNum-decimal Range limit text e r = (r.0, decimal r.1, r.2)
IsNum-decimal NotANumber limit text e r = λ n h. go h refl
  where
    go : {n : ℕ} {t : List ℕ} → Natural t n → text ≡ t → ⊥
    go (decimal {text = t} {n = n} d) s = r n (subst (λ (t : List ℕ). Digits 10 t n) (sym s) d)
    go (hexadecimal {digits = digits} d) s = e digits s
