-- What a scan finds are the digits of the standard, and it finds all of them.
use Rattle.std.proofs.Common.{◌≡◌, ℕ, ◌+◌, ◌*◌, ◌^◌, ◌<◌, ◌≤◌, Bool, true, false, List, [], ◌∷◌, ◌++◌, Option, Some}
use Rattle.std.proofs.Common.{refl, sym, ap, ◌∙◌, append_assoc, append-nil, ◌⊎◌, inl, inr, arith}
use Rattle.std.proofs.Math.Nat.{mul-le-mul_left}
use Rattle.std.proofs.lemmas.Bool.{cases_lt, cases_eq}
use Rattle.wc_tokens.specs.Standard.Digits.{digit_of, IsDigit, Digits, one, more, apart}
use Rattle.wc_tokens.specs.Reading.Scans.{fitting, extended, scan}
use Rattle.wc_tokens.proofs.Integers.Scans.{lt-true, lt-false, scan-digit, scan-apart, scan-other, scan-nothing}
use Rattle.wc_tokens.proofs.Integers.Scans.{scan-end}
use Rattle.wc_tokens.proofs.Integers.Scans.{scan-none}

-- one more digit of a number that fits or doesn't
pub extended-fitting : (base n digit : ℕ) → 0 < base → extended base (fitting n) digit ≡ fitting (base * n + digit)
extended-fitting base n digit pos = elim (cases_lt n (2 ^ 64)) [
  | inl l ↦ let e = lt-true n (2 ^ 64) l in rw e
  | inr l ↦
      let e = lt-false n (2 ^ 64) l in
      let larger : n ≤ base * n = omega (arith, mul-le-mul_left n pos) in
      let f = lt-false (base * n + digit) (2 ^ 64) (omega (arith, larger)) in
      rw (e, f)
]

module _ (base : ℕ) (pos : 0 < base) (low : base ≤ 36) where
  low-apart : base ≤ digit_of 95
  unfolding digit_of
  low-apart = low

  -- ---- digits are scanned

  pub scan-Digits : {front : List ℕ} {n : ℕ} → Digits base front n → (rest : List ℕ)
      → scan base false (Some 0) (front ++ rest) ≡ scan base true (fitting n) rest
  scan-Digits (one c d) rest =
      scan-digit base false (Some 0) c rest d ∙ ap (λ v. scan base true v rest) (ap fitting (omega arith))
  scan-Digits (more {n = n} {front = front} c ds d) rest =
      ap (scan base false (Some 0)) (append_assoc front (c ∷ []) rest) ∙ scan-Digits ds (c ∷ rest)
      ∙ scan-digit base true (fitting n) c rest d
      ∙ ap (λ v. scan base true v rest) (extended-fitting base n (digit_of c) pos)
  scan-Digits (apart {n = n} {front = front} c ds d) rest =
      ap (scan base false (Some 0)) (append_assoc front (95 ∷ c ∷ []) rest) ∙ scan-Digits ds (95 ∷ c ∷ rest)
      ∙ scan-apart base (fitting n) (c ∷ rest) low-apart
      ∙ scan-digit base false (fitting n) c rest d
      ∙ ap (λ v. scan base true v rest) (extended-fitting base n (digit_of c) pos)

  pub scan-whole : {text : List ℕ} {n : ℕ} → Digits base text n → scan base false (Some 0) text ≡ Some (fitting n, [])
  scan-whole {text} {n} ds =
      ap (scan base false (Some 0)) (sym (append-nil text)) ∙ scan-Digits ds [] ∙ scan-end base (fitting n)

  -- ---- what is scanned are digits

  -- what stands before the rest of a scan
  abbrev pub Before : Bool → Option ℕ → List ℕ → Type 0
  Before true value front = (n : ℕ) × Digits base front n × (value ≡ fitting n)
  Before false value front =
      ((front ≡ []) × (value ≡ Some 0)) ⊎
      ((f : List ℕ) × (n : ℕ) × (front ≡ f ++ 95 ∷ []) × Digits base f n × (value ≡ fitting n))

  pub record Found (front text rest : List ℕ) (value : Option ℕ) : Type 0 where
    pub run : List ℕ
    pub number : ℕ
    pub text_is : text ≡ run ++ rest
    pub digits : Digits base (front ++ run) number
    pub value_is : value ≡ fitting number

  Before-digit : (after_digit : Bool) (value : Option ℕ) (front : List ℕ) (c : ℕ) → IsDigit base c
      → Before after_digit value front → Before true (extended base value (digit_of c)) (front ++ c ∷ [])
  Before-digit true value front c d b = (
    base * b.0 + digit_of c,
    more c b.1 d,
    ap (λ v. extended base v (digit_of c)) b.2
        ∙ extended-fitting base b.0 (digit_of c) pos,
  )
  Before-digit false value front c d (inl b) =
      (digit_of c, rw b.0 (one c d), ap (λ v. extended base v (digit_of c)) b.1 ∙ ap fitting (omega arith))
  Before-digit false value front c d (inr b) = (
    base * b.1 + digit_of c,
    rw (b.2, append_assoc b.0 (95 ∷ []) (c ∷ [])) (apart c b.3 d),
    ap (λ v. extended base v (digit_of c)) b.4 ∙ extended-fitting base b.1 (digit_of c) pos,
  )

  Before-apart : (value : Option ℕ) (front : List ℕ) → Before true value front → Before false value (front ++ 95 ∷ [])
  Before-apart value front b = inr (front, b.0, refl, b.1, b.2)

  Found-more : (c : ℕ) (front text rest : List ℕ) (value : Option ℕ) → Found (front ++ c ∷ []) text rest value
      → Found front (c ∷ text) rest value
  Found-more c front text rest value f = record {
    run = c ∷ f.run;
    number = f.number;
    text_is = ap (λ t. c ∷ t) f.text_is;
    digits = rw append_assoc at f.digits;
    value_is = f.value_is;
  }

  Found-none : (front rest : List ℕ) (value v : Option ℕ) (text : List ℕ) → Before true value front
      → ◌≡◌ {A = Option (Option ℕ × List ℕ)} (Some (value, text)) (Some (v, rest)) → Found front text rest v
  Found-none front rest value v text b e =
      let pair : ◌≡◌ {A = Option ℕ × List ℕ} (value, text) (v, rest) = cc in
      record {
        run = [];
        number = b.0;
        text_is = ap (λ (p : Option ℕ × List ℕ). p.1) pair;
        digits = rw append-nil b.1;
        value_is = sym (ap (λ (p : Option ℕ × List ℕ). p.0) pair) ∙ b.2;
      }

  pub Found-scan : (text : List ℕ) (after_digit : Bool) (value : Option ℕ) (front rest : List ℕ) (v : Option ℕ)
      → Before after_digit value front → scan base after_digit value text ≡ Some (v, rest) → Found front text rest v
  Found-scan [] true value front rest v b e = Found-none front rest value v [] b (sym (scan-end base value) ∙ e)
  Found-scan [] false value front rest v b e = let f = scan-none base value in absurd cc
  Found-scan (c ∷ text) after_digit value front rest v b e = elim (cases_lt (digit_of c) base) [
    | inl d ↦ Found-more c front text rest v
        (Found-scan text true (extended base value (digit_of c)) (front ++ c ∷ []) rest v
        (Before-digit after_digit value front c d b) (sym (scan-digit base after_digit value c text d) ∙ e))
    | inr d ↦ Found-other c text after_digit value front rest v b e d (λ w.
        Found-scan text false value (front ++ 95 ∷ []) rest v w)
  ]
    where
      Found-other : (c : ℕ) (text : List ℕ) (after_digit : Bool) (value : Option ℕ) (front rest : List ℕ) (v : Option ℕ)
          → Before after_digit value front → scan base after_digit value (c ∷ text) ≡ Some (v, rest) → base ≤ digit_of c
          → (Before false value (front ++ 95 ∷ []) → scan base false value text ≡ Some (v, rest)
          → Found (front ++ 95 ∷ []) text rest v)
          → Found front (c ∷ text) rest v
      Found-other c text true value front rest v b e d next = elim (cases_eq c 95) [
        | inl s ↦
            let step : scan base true value (c ∷ text) ≡ scan base false value text = rw s
            (scan-apart base value text low-apart) in
            rw s (Found-more 95 front text rest v (next (Before-apart value front b) (sym step ∙ e)))
        | inr s ↦ Found-none front rest value v (c ∷ text) b (sym (scan-other base value c text d s) ∙ e)
      ]
      Found-other c text false value front rest v b e d next = let f = scan-nothing base value c text d in absurd cc
