-- Decimal digits, and how numbers begin.
use Rattle.std.proofs.Common.{◌≡◌, ℕ, ◌+◌, ◌-◌, ◌*◌, ◌^◌, ◌<◌, ◌≤◌, List, [], ◌∷◌, ◌++◌, length, take, get_or, arith}
use Rattle.std.proofs.Common.{refl}
use Rattle.std.proofs.Common.{◌⊎◌, inl, inr, ap, ◌∙◌, subst}
use Rattle.std.proofs.lemmas.Bool.Decides.{nat_tests}
use Rattle.std.proofs.lemmas.List.{take_more, take_all}
use Rattle.std.proofs.lemmas.Grind.{pow_more}
use Rattle.std.proofs.Math.Nat.{pow-le-pow_right}
use Rattle.wc_tokens.specs.Standard.Digits.{digit_of, IsDigit, Digits, one, more, apart}
use Rattle.wc_tokens.specs.Standard.Numbers.{Natural, decimal, hexadecimal}

pub digit_of-decimal : (c : ℕ) → 48 ≤ c → c ≤ 57 → digit_of c ≡ c - 48
unfolding digit_of
digit_of-decimal c low high = grind (arith, nat_tests)

pub digit_of-range : (c : ℕ) → digit_of c < 10 → (48 ≤ c) × (c ≤ 57)
unfolding digit_of
digit_of-range c d = grind (arith, nat_tests)

-- what a number begins with
pub record Begins (text : List ℕ) : Type 0 where
  pub first : ℕ
  pub rest : List ℕ
  pub text_is : text ≡ first ∷ rest
  pub low : 48 ≤ first
  pub high : first ≤ 57

begins-more : (front tail : List ℕ) → Begins front → Begins (front ++ tail)
begins-more front tail b =
    record {
      first = b.first;
      rest = b.rest ++ tail;
      text_is = ap (λ t. t ++ tail) b.text_is;
      low = b.low;
      high =
          b.high;
    }

begins-Digits : {base n : ℕ} {text : List ℕ} → Digits base text n → base ≡ 10 → Begins text
begins-Digits (one c d) e =
    let r = digit_of-range c (subst (λ (b : ℕ). digit_of c < b) e d) in
    record { first = c; rest = []; text_is = refl; low = r.0; high = r.1 }
begins-Digits (more {front = front} c ds d) e = begins-more front (c ∷ []) (begins-Digits ds e)
begins-Digits (apart {front = front} c ds d) e = begins-more front (95 ∷ c ∷ []) (begins-Digits ds e)

pub begins : {text : List ℕ} {n : ℕ} → Natural text n → Begins text
begins (decimal d) = begins-Digits d refl
begins (hexadecimal {digits = digits} d) =
    record { first = 48; rest = 120 ∷ digits; text_is = refl; low = omega arith; high = omega arith }

-- the value of so many decimal digits at the front of a text
pub record Short (text : List ℕ) (at value : ℕ) : Type 0 where
  pub digits : ((at ≡ 0) × (value ≡ 0)) ⊎ Digits 10 (take at text) value
  pub within : value < 10 ^ at

pub Short-more : (text : List ℕ) (at value new c : ℕ) → Short text at value → at < length text → get_or text at 0 ≡ c
    → 48 ≤ c → c ≤ 57 → new ≡ 10 * value + (c - 48) → Short text (at + 1) new
Short-more text at value new c s l e low high n = record {
  digits = inr (digits s.digits);
  within = let p = pow_more 10 at in omega (arith, p, n, s.within, low, high);
}
  where
    digit : IsDigit 10 c
    digit = let d = digit_of-decimal c low high in omega (arith, d)

    new-is : new ≡ 10 * value + digit_of c
    new-is = let d = digit_of-decimal c low high in omega (arith, d, n)

    front : take (at + 1) text ≡ take at text ++ c ∷ []
    front = take_more text at 0 l ∙ ap (λ (x : ℕ). take at text ++ x ∷ []) e

    digits : ((at ≡ 0) × (value ≡ 0)) ⊎ Digits 10 (take at text) value → Digits 10 (take (at + 1) text) new
    digits (inl (a, v)) =
        let whole : take (at + 1) text ≡ c ∷ [] = front ∙ ap (λ (k : ℕ). take k text ++ c ∷ []) a in
        let is : new ≡ digit_of c = omega (arith, new-is, v) in
        rw (whole, is) (one c digit)
    digits (inr d) = rw (front, new-is) (more c d digit)

-- a number of up to nine digits fits
pub Short-small : (text : List ℕ) (at value : ℕ) → Short text at value → at ≤ 9 → value < 10 ^ 9
Short-small text at value s l =
    let p : 10 ^ at ≤ 10 ^ 9 = pow-le-pow_right (omega arith) l in omega (arith, p, s.within)

-- all of the text is digits
pub Short-whole : (text : List ℕ) (at value : ℕ) → Short text at value → 0 < length text → length text ≤ 9
    → length text ≤ at → at ≤ length text → Digits 10 text value × (value < 10 ^ 9)
Short-whole text at value s some few low high =
    let same : at ≡ length text = omega (arith, low, high) in
    let whole : take at text ≡ text = take_all at text low in
    elim s.digits [
      | inl none ↦ absurd (omega (arith, none.0, same, some))
      | inr d ↦ (
        subst (λ (t : List ℕ). Digits 10 t value) whole d,
        Short-small text at value s (omega (arith, high, few)),
      )
    ]
