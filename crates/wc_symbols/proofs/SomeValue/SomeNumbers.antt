-- Each word is a number, or it is none.
use Rattle.std.proofs.Common.{◌≡◌, ◌≢◌, ℕ, zero, suc, ◌-◌, ◌^◌, ◌<◌, ◌≤◌, false, List, [], ◌∷◌, Option, Some, None}
use Rattle.std.proofs.Common.{refl, sym, ap, subst, ◌∙◌, ◌⊎◌, inl, inr, arith}
use Rattle.std.proofs.lemmas.Bool.{cases_lt, cases_eq}
use Rattle.wc_tokens.specs.Standard.Digits.{Digits}
use Rattle.wc_tokens.specs.Reading.Scans.{scan}
use Rattle.wc_tokens.specs.Standard.Numbers.{Natural, decimal, hexadecimal, Signed, Unsigned, Plus, Minus, Literal}
use Rattle.wc_tokens.specs.Standard.Numbers.{unsigned, plus, minus, FitsBits, bits_of}
use Rattle.wc_tokens.specs.declared.numbers.Num.TheVariants.{NotANumber}
use Rattle.wc_tokens.proofs.Integers.NumberLaws.{no-digits, more-behind, all-digits, IsNum-hexadecimal, IsNum-decimal}
use Rattle.wc_syntax.specs.declared.kind.Kind.TheVariants as kind
use Rattle.wc_symbols.specs.declared.symbol.Symbol.{Symbol}
use Rattle.wc_symbols.specs.declared.symbol.Value.TheVariants.{Number, Offset, Exponent}
use Rattle.wc_symbols.specs.Standard.Symbols.{bare, valued, OrOther}
use Rattle.wc_symbols.specs.Standard.Numbers.{NaturalIs, below_32, below_64, above, HasSign, SignedIs, of_32, of_64}
use Rattle.wc_symbols.specs.Standard.Numbers.{beyond, OffsetIs, offset_number, offset_range, offset_form, AlignIs}
use Rattle.wc_symbols.specs.Standard.Numbers.{align_power, align_no_power, align_range, align_form}
use Rattle.wc_symbols.proofs.Spelling.NumberLemmas.{natural-none, no-power-before}

-- ---- natural numbers

-- the text spells a number, or none
abbrev Spelt : (ℕ → Type 0) → Type 0
Spelt Spells = ((n : ℕ) × Spells n) ⊎ ((n : ℕ) → ¬ (Spells n))

some-digits : (base : ℕ) → 0 < base → base ≤ 36 → (text : List ℕ) → Spelt (Digits base text)
some-digits base pos low text = go (scan base false (Some 0) text) refl
  where
    go : (r : Option (Option ℕ × List ℕ)) → r ≡ scan base false (Some 0) text → Spelt (Digits base text)
    go None e = inr (no-digits base pos low text e)
    go (Some (value, [])) e = let all = all-digits base pos low text [] value refl e in inl (all.0, all.1)
    go (Some (value, c ∷ rest)) e = inr (more-behind base pos low text (c ∷ rest) value (omega arith) e)

-- `0x` begins it, or doesn't
abbrev Prefixed : List ℕ → Type 0
Prefixed text = ((digits : List ℕ) × (text ≡ 48 ∷ 120 ∷ digits)) ⊎ ((digits : List ℕ) → text ≢ 48 ∷ 120 ∷ digits)

prefixed : (text : List ℕ) → Prefixed text
prefixed [] = inr (λ ds e. absurd cc)
prefixed (c ∷ []) = inr (λ ds e. absurd cc)
prefixed (c ∷ d ∷ rest) = elim (cases_eq c 48) [
  | inl e ↦ elim (cases_eq d 120) [
    | inl f ↦ inl (rest, cc (e, f))
    | inr n ↦ inr (λ ds g. absurd (n cc))
  ]
  | inr n ↦ inr (λ ds g. absurd (n cc))
]

pub some-number : (text : List ℕ) → Spelt (Natural text)
some-number text = elim (prefixed text) [
  | inl (digits, e) ↦ elim (some-digits 16 (omega arith) (omega arith) digits) [
    | inl (n, d) ↦ inl (n, subst (λ (t : List ℕ). Natural t n) (sym e) (hexadecimal d))
    | inr none ↦ inr (IsNum-hexadecimal NotANumber 0 digits text e none)
  ]
  | inr plain ↦ elim (some-digits 10 (omega arith) (omega arith) text) [
    | inl (n, d) ↦ inl (n, decimal d)
    | inr none ↦ inr (IsNum-decimal NotANumber 0 text plain none)
  ]
]

pub some-natural : (text : List ℕ) → (s : Symbol) × OrOther (NaturalIs text) s
some-natural text = elim (some-number text) [
  | inl (n, d) ↦ elim (cases_lt n (2 ^ 32)) [
    | inl l ↦ (valued kind.Natural32 (Number n), inl (below_32 d l))
    | inr l ↦ elim (cases_lt n (2 ^ 64)) [
      | inl h ↦ (valued kind.Natural64 (Number n), inl (below_64 d l h))
      | inr h ↦ (bare kind.Natural, inl (above d h))
    ]
  ]
  | inr none ↦ (bare kind.OtherWord, natural-none text (bare kind.OtherWord) none refl)
]

-- ---- numbers behind a sign

fits-or-not : (bits : ℕ) (l : Signed) → FitsBits bits l ⊎ ¬ (FitsBits bits l)
fits-or-not bits (Unsigned n) =
    elim (cases_lt n (2 ^ bits)) [ inl l ↦ inl l | inr l ↦ inr (λ (k : n < 2 ^ bits). absurd (omega (arith, k, l))) ]
fits-or-not bits (Plus n) = elim (cases_lt n (2 ^ (bits - 1))) [
  | inl l ↦ inl l
  | inr l ↦ inr (λ (k : n < 2 ^ (bits - 1)). absurd (omega (arith, k, l)))
]
fits-or-not bits (Minus n) = elim (cases_lt (2 ^ (bits - 1)) n) [
  | inl l ↦ inr (λ (k : n ≤ 2 ^ (bits - 1)). absurd (omega (arith, k, l)))
  | inr l ↦ inl l
]

signed-of : (text : List ℕ) (l : Signed) → Literal text l → HasSign l → (s : Symbol) × SignedIs text s
signed-of text l d h = elim (fits-or-not 32 l) [
  | inl f ↦ (valued kind.Signed32 (Number (bits_of 64 l)), of_32 d h f)
  | inr n ↦ elim (fits-or-not 64 l) [
    | inl f ↦ (valued kind.Signed64 (Number (bits_of 64 l)), of_64 d h n f)
    | inr m ↦ (bare kind.Signed, beyond d h m)
  ]
]

-- a sign, and a number behind it
record Behind (text : List ℕ) : Type 0 where
  first : ℕ
  digits : List ℕ
  text_is : text ≡ first ∷ digits
  sign : (first ≡ 43) ⊎ (first ≡ 45)
  number : ℕ
  spells : Natural digits number

behind : {text : List ℕ} {l : Signed} → Literal text l → HasSign l → Behind text
behind (unsigned d) h = absurd h
behind (plus {text = ds} {n = n} d) h =
    record { first = 43; digits = ds; text_is = refl; sign = inl refl; number = n; spells = d }
behind (minus {text = ds} {n = n} d) h =
    record { first = 45; digits = ds; text_is = refl; sign = inr refl; number = n; spells = d }

signed-behind : {text : List ℕ} {s : Symbol} → SignedIs text s → Behind text
signed-behind (of_32 d h f) = behind d h
signed-behind (of_64 d h n f) = behind d h
signed-behind (beyond d h f) = behind d h

no-signed : (text : List ℕ) → ¬ (Behind text) → (s : Symbol) × OrOther (SignedIs text) s
no-signed text none = (bare kind.OtherWord, inr ((λ o h. none (signed-behind h)), refl))

no-digits-behind : (c : ℕ) (digits : List ℕ) → ((n : ℕ) → ¬ (Natural digits n)) → ¬ (Behind (c ∷ digits))
no-digits-behind c digits none b =
    let same : b.digits ≡ digits = let e = b.text_is in cc in
    none b.number (subst (λ (t : List ℕ). Natural t b.number) same b.spells)

no-sign : (c : ℕ) (digits : List ℕ) → c ≢ 43 → c ≢ 45 → ¬ (Behind (c ∷ digits))
no-sign c digits n m b =
    let same : c ≡ b.first = let e = b.text_is in cc in
    elim b.sign [ inl e ↦ n (same ∙ e) | inr e ↦ m (same ∙ e) ]

no-text : ¬ (Behind [])
no-text b = let e = b.text_is in absurd cc

pub some-signed : (text : List ℕ) → (s : Symbol) × OrOther (SignedIs text) s
some-signed [] = no-signed [] no-text
some-signed (c ∷ digits) = elim (cases_eq c 43) [
  | inl e ↦ elim (some-number digits) [
    | inl (n, d) ↦
        let w = signed-of (43 ∷ digits) (Plus n) (plus d) tt in
        (w.0, inl (subst (λ (x : ℕ). SignedIs (x ∷ digits) w.0) (sym e) w.1))
    | inr none ↦ no-signed (c ∷ digits) (no-digits-behind c digits none)
  ]
  | inr n ↦ elim (cases_eq c 45) [
    | inl e ↦ elim (some-number digits) [
      | inl (n, d) ↦
          let w = signed-of (45 ∷ digits) (Minus n) (minus d) tt in
          (w.0, inl (subst (λ (x : ℕ). SignedIs (x ∷ digits) w.0) (sym e) w.1))
      | inr none ↦ no-signed (c ∷ digits) (no-digits-behind c digits none)
    ]
    | inr m ↦ no-signed (c ∷ digits) (no-sign c digits n m)
  ]
]

-- ---- what stands behind `offset=` and `align=`

pub some-offset : (digits : List ℕ) → (s : Symbol) × OffsetIs digits s
some-offset digits = elim (some-number digits) [
  | inl (n, d) ↦ elim (cases_lt n (2 ^ 32)) [
    | inl l ↦ (valued kind.MemOffset (Offset n), offset_number d l)
    | inr l ↦ (bare kind.MemOffsetRange, offset_range d l)
  ]
  | inr none ↦ (bare kind.MemOffsetForm, offset_form none)
]

-- a power of two below this one, or none
some-power : (n k : ℕ) → ((e : ℕ) × (e < k) × (n ≡ 2 ^ e)) ⊎ ((e : ℕ) → e < k → n ≢ 2 ^ e)
some-power n zero = inr (λ e l. absurd (omega (arith, l)))
some-power n (suc k) = elim (some-power n k) [
  | inl (e, l, is) ↦ inl (e, omega (arith, l), is)
  | inr none ↦ elim (cases_eq n (2 ^ k)) [
    | inl is ↦ inl (k, omega arith, is)
    | inr not ↦ inr (λ e l is. elim (cases_lt e k) [
      | inl less ↦ none e less is
      | inr more ↦
          let same : e ≡ k = omega (arith, l, more) in not (is ∙ ap (λ (x : ℕ). 2 ^ x) same)
    ])
  ]
]

pub some-align : (digits : List ℕ) → (s : Symbol) × AlignIs digits s
some-align digits = elim (some-number digits) [
  | inl (n, d) ↦ elim (cases_lt n (2 ^ 32)) [
    | inl l ↦ elim (some-power n 32) [
      | inl (e, less, is) ↦ (valued kind.MemAlign (Exponent e), align_power d is less)
      | inr none ↦ (bare kind.MemAlignPower, align_no_power d l (no-power-before n 32 l none (omega arith)))
    ]
    | inr l ↦ (bare kind.MemAlignRange, align_range d l)
  ]
  | inr none ↦ (bare kind.MemAlignForm, align_form none)
]
