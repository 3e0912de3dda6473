-- What `unsigned` and `integer` answer, from the natural number that is read.
use Rattle.std.proofs.Common.{◌≡◌, ◌≢◌, ℕ, ◌+◌, ◌-◌, ◌/◌, ◌%◌, ◌^◌, ◌<◌, ◌≤◌, nat_le, nat_eq, true, false, List, []}
use Rattle.std.proofs.Common.{◌∷◌, length, refl, sym, ap, subst, ◌∙◌, ◌⊎◌, inl, inr, arith, length-append, lit<, lit≤}
use Rattle.std.specs.Prelude.{◌↔◌}
use Rattle.std.proofs.lemmas.Bool.{cases_lt, cases_eq}
use Rattle.std.proofs.lemmas.Bool.Decides.{nat_tests}
use Rattle.wc_tokens.specs.Standard.Digits.{digit_of, IsDigit, Digits, one, more, apart}
use Rattle.wc_tokens.specs.Standard.Numbers.{Natural, decimal, hexadecimal, Signed, Unsigned, Plus, Minus, Literal}
use Rattle.wc_tokens.specs.Standard.Numbers.{unsigned}
use Rattle.wc_tokens.specs.Standard.Numbers.{plus, minus, FitsBits, bits_of}
use Rattle.wc_tokens.specs.Reading.Numbers.{IsNum, limited, negated}
use Rattle.wc_tokens.specs.declared.numbers.Num.{Num}
use Rattle.wc_tokens.specs.declared.numbers.Num.TheVariants.{Value, Range, NotANumber}
use Rattle.wc_tokens.proofs.Integers.Scans.{eq-false}
use Rattle.wc_tokens.proofs.Integers.NumberLaws.{fitting-some, fitting-small, same-fitting}

le-true : (a b : ℕ) → a ≤ b → nat_le a b ≡ true
le-true a b h = grind (arith, nat_tests)

le-false : (a b : ℕ) → b < a → nat_le a b ≡ false
le-false a b h = grind (arith, nat_tests)

-- two numbers of one text are the same if 64 bits hold one
pub same-Natural : {text : List ℕ} {a b : ℕ} → Natural text a → Natural text b → a < 2 ^ 64 → a ≡ b
same-Natural {text} {a} {b} m n l = (fitting-some b a (sym (same-fitting m n) ∙ fitting-small a l)).0

-- a number below a limit that 64 bits hold
pub IsNum-limited : (text : List ℕ) (number : Num) (max limit : ℕ) → max + 1 ≡ limit → limit ≤ 2 ^ 64
    → IsNum (Natural text) (2 ^ 64) number → IsNum (Natural text) limit (limited number max)
IsNum-limited text (Value n) max limit top within r = elim (cases_lt max n) [
  | inl l ↦ let e = le-false n max l in let large : limit ≤ n = omega arith in rw e (n, r.0, large)
  | inr l ↦ let e = le-true n max l in let small : n < limit = omega arith in rw e (r.0, small)
]
IsNum-limited text Range max limit top within r = let large : limit ≤ r.0 = omega arith in (r.0, r.1, large)
IsNum-limited text NotANumber max limit top within r = r

module _ (text : List ℕ) (limit : ℕ) (within : limit ≤ 2 ^ 64) where
  pub IsNum-value : (result : Num) → IsNum (Natural text) limit result → (n : ℕ)
      → (result ≡ Value n) ↔ (Natural text n × (n < limit))
  IsNum-value (Value m) r n = (
    (λ e. let s : m ≡ n = cc in (subst (Natural text) s r.0, omega arith)),
    (λ h. let small : n < 2 ^ 64 = omega (arith, h.1) in let s = same-Natural h.0 r.0 small in ap Value (sym s)),
  )
  IsNum-value Range r n = (
    (λ e. absurd cc),
    (λ h. let small : n < 2 ^ 64 = omega (arith, h.1) in let s = same-Natural h.0 r.1 small in
        absurd (omega (arith, h.1, r.2))),
  )
  IsNum-value NotANumber r n = ((λ e. absurd cc), (λ h. absurd (r n h.0)))

  pub IsNum-range : (result : Num) → IsNum (Natural text) limit result
      → (result ≡ Range) ↔ ((n : ℕ) × Natural text n × (limit ≤ n))
  IsNum-range (Value m) r = (
    (λ e. absurd cc),
    (λ h. let small : m < 2 ^ 64 = omega (arith, r.1) in let s = same-Natural r.0 h.1 small in
        absurd (omega (arith, h.2, r.1))),
  )
  IsNum-range Range r = ((λ e. r), (λ h. refl))
  IsNum-range NotANumber r = ((λ e. absurd cc), (λ h. absurd (r h.0 h.1)))

  pub IsNum-none : (result : Num) → IsNum (Natural text) limit result
      → (result ≡ NotANumber) ↔ ((n : ℕ) → ¬ (Natural text n))
  IsNum-none (Value m) r = ((λ e. absurd cc), (λ h. absurd (h m r.0)))
  IsNum-none Range r = ((λ e. absurd cc), (λ h. absurd (h r.0 r.1)))
  IsNum-none NotANumber r = ((λ e. r), (λ h. refl))

-- ---- literals, of which each text has one sign

-- what is answered of a number behind a sign
abbrev pub Answers : ℕ → (ℕ → Signed) → List ℕ → Num → Type 0
Answers bits sign digits (Value v) = (n : ℕ) × Natural digits n × FitsBits bits (sign n) × (v ≡ bits_of bits (sign n))
Answers bits sign digits Range = (n : ℕ) × Natural digits n × ¬ (FitsBits bits (sign n))
Answers bits sign digits NotANumber = (n : ℕ) → ¬ (Natural digits n)

-- the text has just the literals of this sign
pub record HasSign (sign : ℕ → Signed) (text digits : List ℕ) : Type 0 where
  pub makes : (n : ℕ) → Natural digits n → Literal text (sign n)
  pub only : (l : Signed) → Literal text l → (n : ℕ) × Natural digits n × (l ≡ sign n)

module _ (bits : ℕ) (sign : ℕ → Signed) (text digits : List ℕ) (has : HasSign sign text digits)
    (small : (n : ℕ) → FitsBits bits (sign n) → n < 2 ^ 64) where
  abbrev Fitting : ℕ → Type 0
  Fitting v = (l : Signed) × Literal text l × FitsBits bits l × (v ≡ bits_of bits l)

  same-sign : {a b : ℕ} → Natural digits a → Natural digits b → FitsBits bits (sign a) → a ≡ b
  same-sign {a} {b} m n f = same-Natural m n (small a f)

  pub Answers-value : (result : Num) → Answers bits sign digits result → (v : ℕ) → (result ≡ Value v) ↔ Fitting v
  Answers-value (Value w) r v = (
    (λ e. let s : w ≡ v = cc in (sign r.0, has.makes r.0 r.1, r.2, sym s ∙ r.3)),
    (λ h.
        let o = has.only h.0 h.1 in
        let f : FitsBits bits (sign o.0) = subst (FitsBits bits) o.2 h.2 in
        let s : o.0 ≡ r.0 = same-sign o.1 r.1 f in
        let b : v ≡ bits_of bits (sign r.0) = h.3 ∙ ap (bits_of bits) (o.2 ∙ ap sign s) in
        ap Value (r.3 ∙ sym b)),
  )
  Answers-value Range r v = (
    (λ e. absurd cc),
    (λ h.
        let o = has.only h.0 h.1 in
        let f : FitsBits bits (sign o.0) = subst (FitsBits bits) o.2 h.2 in
        let s : o.0 ≡ r.0 = same-sign o.1 r.1 f in
        absurd (r.2 (subst (λ (n : ℕ). FitsBits bits (sign n)) s f))),
  )
  Answers-value NotANumber r v = ((λ e. absurd cc), (λ h. let o = has.only h.0 h.1 in absurd (r o.0 o.1)))

  pub Answers-range : (result : Num) → Answers bits sign digits result
      → (result ≡ Range) ↔ ((l : Signed) × Literal text l × ¬ (FitsBits bits l))
  Answers-range (Value w) r = (
    (λ e. absurd cc),
    (λ h.
        let o = has.only h.0 h.1 in
        let s : r.0 ≡ o.0 = same-sign r.1 o.1 r.2 in
        absurd (h.2 (subst (FitsBits bits) (ap sign s ∙ sym o.2) r.2))),
  )
  Answers-range Range r = ((λ e. (sign r.0, has.makes r.0 r.1, r.2)), (λ h. refl))
  Answers-range NotANumber r = ((λ e. absurd cc), (λ h. let o = has.only h.0 h.1 in absurd (r o.0 o.1)))

  pub Answers-none : (result : Num) → Answers bits sign digits result
      → (result ≡ NotANumber) ↔ ((l : Signed) → ¬ (Literal text l))
  Answers-none (Value w) r = ((λ e. absurd cc), (λ h. absurd (h (sign r.0) (has.makes r.0 r.1))))
  Answers-none Range r = ((λ e. absurd cc), (λ h. absurd (h (sign r.0) (has.makes r.0 r.1))))
  Answers-none NotANumber r = ((λ e. λ l h. let o = has.only l h in r o.0 o.1), (λ h. refl))

-- ---- which sign a text has

some-digits : {base n : ℕ} {text : List ℕ} → Digits base text n → 0 < length text
some-digits (one c d) = omega arith
some-digits (more {front = front} c ds d) = omega (arith, length-append front (c ∷ []))
some-digits (apart {front = front} c ds d) = omega (arith, length-append front (95 ∷ c ∷ []))

-- a natural number begins with a digit
first-digit : {base n : ℕ} {text : List ℕ} → Digits base text n → (c : ℕ) (rest : List ℕ) → text ≡ c ∷ rest
    → IsDigit base c
first-digit {base} (one c d) b rest e = let s : c ≡ b = cc in subst (IsDigit base) s d
first-digit (more {front = []} c ds d) b rest e = absurd (omega (arith, some-digits ds))
first-digit (more {front = x ∷ front} c ds d) b rest e =
    let s : x ≡ b = cc in first-digit ds b front (ap (λ (y : ℕ). y ∷ front) s)
first-digit (apart {front = []} c ds d) b rest e = absurd (omega (arith, some-digits ds))
first-digit (apart {front = x ∷ front} c ds d) b rest e =
    let s : x ≡ b = cc in first-digit ds b front (ap (λ (y : ℕ). y ∷ front) s)

first-Natural : {n : ℕ} {text : List ℕ} → Natural text n → (c : ℕ) (rest : List ℕ) → text ≡ c ∷ rest → IsDigit 10 c
unfolding digit_of
first-Natural (decimal d) c rest e = first-digit d c rest e
first-Natural (hexadecimal d) c rest e = let s : 48 ≡ c = cc in subst (IsDigit 10) s (lit< tt)

unsigned-plus : {n : ℕ} (digits : List ℕ) → ¬ (Natural (43 ∷ digits) n)
unfolding digit_of
unsigned-plus digits d = let first : 36 < 10 = first-Natural d 43 digits refl in absurd (omega (arith, first))

unsigned-minus : {n : ℕ} (digits : List ℕ) → ¬ (Natural (45 ∷ digits) n)
unfolding digit_of
unsigned-minus digits d = let first : 36 < 10 = first-Natural d 45 digits refl in absurd (omega (arith, first))

only-plus : (digits : List ℕ) (l : Signed) → Literal (43 ∷ digits) l → (n : ℕ) × Natural digits n × (l ≡ Plus n)
only-plus digits l (unsigned d) = absurd (unsigned-plus digits d)
only-plus digits l (plus {n = n} d) = (n, d, refl)

only-minus : (digits : List ℕ) (l : Signed) → Literal (45 ∷ digits) l → (n : ℕ) × Natural digits n × (l ≡ Minus n)
only-minus digits l (unsigned d) = absurd (unsigned-minus digits d)
only-minus digits l (minus {n = n} d) = (n, d, refl)

pub HasSign-plus : (text digits : List ℕ) → text ≡ 43 ∷ digits → HasSign Plus text digits
HasSign-plus text digits e =
    subst (λ (t : List ℕ). HasSign Plus t digits) (sym e) (record { makes = λ n h. plus h; only = only-plus digits })

pub HasSign-minus : (text digits : List ℕ) → text ≡ 45 ∷ digits → HasSign Minus text digits
HasSign-minus text digits e =
    subst (λ (t : List ℕ). HasSign Minus t digits) (sym e) (record { makes = λ n h. minus h; only = only-minus digits })

only-unsigned : {text : List ℕ} {l : Signed} → Literal text l → ((rest : List ℕ) → text ≢ 43 ∷ rest)
    → ((rest : List ℕ) → text ≢ 45 ∷ rest) → (n : ℕ) × Natural text n × (l ≡ Unsigned n)
only-unsigned (unsigned {n = n} d) p m = (n, d, refl)
only-unsigned (plus {text = digits} d) p m = absurd (p digits refl)
only-unsigned (minus {text = digits} d) p m = absurd (m digits refl)

pub HasSign-unsigned : (text : List ℕ) → ((rest : List ℕ) → text ≢ 43 ∷ rest) → ((rest : List ℕ) → text ≢ 45 ∷ rest)
    → HasSign Unsigned text text
HasSign-unsigned text p m = record { makes = λ n h. unsigned h; only = λ l h. only-unsigned h p m }

-- ---- 32 or 64 bits

pub record IsWidth (bits max : ℕ) : Type 0 where
  pub within : 2 ^ bits ≤ 2 ^ 64
  pub half : max / 2 + 1 ≡ 2 ^ (bits - 1)
  pub half_within : 2 ^ (bits - 1) < 2 ^ 64
  pub complement : (n : ℕ) → 0 < n → n ≤ 2 ^ (bits - 1) → max + 1 - n ≡ (2 ^ bits - n) % 2 ^ bits
  pub zero_complement : 0 ≡ (2 ^ bits - 0) % 2 ^ bits

pub IsWidth-bits : (bits max : ℕ) → (bits ≡ 32) ⊎ (bits ≡ 64) → max + 1 ≡ 2 ^ bits → IsWidth bits max
IsWidth-bits bits max (inl e) top =
    subst (λ (b : ℕ). IsWidth b max) (sym e)
    (record {
      within = lit≤ tt;
      half = omega (arith, top');
      half_within = lit< tt;
      complement = λ n h k. omega (arith, top', h, k);
      zero_complement = refl;
    })
  where
    top' : max + 1 ≡ 2 ^ 32
    top' = subst (λ (b : ℕ). max + 1 ≡ 2 ^ b) e top
IsWidth-bits bits max (inr e) top =
    subst (λ (b : ℕ). IsWidth b max) (sym e)
    (record {
      within = lit≤ tt;
      half = omega (arith, top');
      half_within = lit< tt;
      complement = λ n h k. omega (arith, top', h, k);
      zero_complement = refl;
    })
  where
    top' : max + 1 ≡ 2 ^ 64
    top' = subst (λ (b : ℕ). max + 1 ≡ 2 ^ b) e top

pub Answers-unsigned : (bits : ℕ) (text : List ℕ) (result : Num) → IsNum (Natural text) (2 ^ bits) result
    → Answers bits Unsigned text result
Answers-unsigned bits text (Value n) r = (n, r.0, r.1, refl)
Answers-unsigned bits text Range r = (r.0, r.1, λ l. absurd (omega (arith, l, r.2)))
Answers-unsigned bits text NotANumber r = r

pub Answers-plus : (bits : ℕ) (digits : List ℕ) (result : Num) → IsNum (Natural digits) (2 ^ (bits - 1)) result
    → Answers bits Plus digits result
Answers-plus bits digits (Value n) r = (n, r.0, r.1, refl)
Answers-plus bits digits Range r = (r.0, r.1, λ l. absurd (omega (arith, l, r.2)))
Answers-plus bits digits NotANumber r = r

pub Answers-minus : (bits max : ℕ) (digits : List ℕ) (number : Num) → IsWidth bits max
    → IsNum (Natural digits) (2 ^ 64) number → Answers bits Minus digits (negated number max)
Answers-minus bits max digits (Value n) w r = elim (cases_eq n 0) [
  | inl z ↦
      let e : nat_eq n 0 ≡ true = grind (arith, nat_tests) in
      let small : 0 ≤ 2 ^ (bits - 1) = omega arith in
      rw e (0, subst (Natural digits) z r.0, small, w.zero_complement)
  | inr z ↦ elim (cases_lt (max / 2 + 1) n) [
    | inl l ↦
        let e : nat_eq n 0 ≡ false = eq-false n 0 z in
        let f : nat_le n (max / 2 + 1) ≡ false = le-false n (max / 2 + 1) l in
        let large : ¬ (n ≤ 2 ^ (bits - 1)) = λ h. absurd (omega (arith, l, h, w.half)) in
        rw (e, f) (n, r.0, large)
    | inr l ↦
        let e : nat_eq n 0 ≡ false = eq-false n 0 z in
        let f : nat_le n (max / 2 + 1) ≡ true = le-true n (max / 2 + 1) l in
        let small : n ≤ 2 ^ (bits - 1) = omega (arith, l, w.half) in
        let some : 0 < n = omega (arith, z) in
        rw (e, f) (n, r.0, small, w.complement n some small)
  ]
]
Answers-minus bits max digits Range w r =
    let large : ¬ (r.0 ≤ 2 ^ (bits - 1)) = λ h. absurd (omega (arith, h, r.2, w.half_within)) in (r.0, r.1, large)
Answers-minus bits max digits NotANumber w r = r

-- ---- the answers

pub record IsUnsigned (bits : ℕ) (text : List ℕ) (result : Num) : Type 0 where
  pub value : (n : ℕ) → (result ≡ Value n) ↔ (Natural text n × (n < 2 ^ bits))
  pub range : (result ≡ Range) ↔ ((n : ℕ) × Natural text n × (2 ^ bits ≤ n))
  pub none : (result ≡ NotANumber) ↔ ((n : ℕ) → ¬ (Natural text n))

pub IsUnsigned-limited : (bits max : ℕ) (text bytes : List ℕ) (number : Num) {result : Num} → (bits ≡ 32) ⊎ (bits ≡ 64)
    → max + 1 ≡ 2 ^ bits → bytes ≡ text → IsNum (Natural bytes) (2 ^ 64) number → result ≡ limited number max
    → IsUnsigned bits text result
IsUnsigned-limited bits max text bytes number width top same reads is =
    let w = IsWidth-bits bits max width top in
    let reads' : IsNum (Natural text) (2 ^ 64) number = subst
    (λ (t : List ℕ). IsNum (Natural t) (2 ^ 64) number) same reads in
    let answer = IsNum-limited text number max (2 ^ bits) top w.within reads' in
    subst (IsUnsigned bits text) (sym is) (record {
      value = IsNum-value text (2 ^ bits) w.within (limited number max) answer;
      range = IsNum-range text (2 ^ bits) w.within (limited number max) answer;
      none = IsNum-none text (2 ^ bits) w.within (limited number max) answer;
    })

pub record IsInteger (bits : ℕ) (text : List ℕ) (result : Num) : Type 0 where
  pub value : (n : ℕ) → (result ≡ Value n) ↔ ((l : Signed) × Literal text l × FitsBits bits l × (n ≡ bits_of bits l))
  pub range : (result ≡ Range) ↔ ((l : Signed) × Literal text l × ¬ (FitsBits bits l))
  pub none : (result ≡ NotANumber) ↔ ((l : Signed) → ¬ (Literal text l))

IsInteger-answers : (bits : ℕ) (sign : ℕ → Signed) (text digits : List ℕ) (result : Num) → HasSign sign text digits
    → ((n : ℕ) → FitsBits bits (sign n) → n < 2 ^ 64) → Answers bits sign digits result → IsInteger bits text result
IsInteger-answers bits sign text digits result has small a = record {
  value = Answers-value bits sign text digits has small result a;
  range = Answers-range bits sign text digits has small result a;
  none = Answers-none bits sign text digits has small result a;
}

pub IsInteger-plus : (bits max : ℕ) (text bytes digits : List ℕ) (number : Num) {result : Num}
    → (bits ≡ 32) ⊎ (bits ≡ 64) → max + 1 ≡ 2 ^ bits → bytes ≡ text → bytes ≡ 43 ∷ digits
    → IsNum (Natural digits) (2 ^ 64) number → result ≡ limited number (max / 2) → IsInteger bits text result
IsInteger-plus bits max text bytes digits number width top same front reads is =
    let w = IsWidth-bits bits max width top in
    let half : 2 ^ (bits - 1) ≤ 2 ^ 64 = omega (arith, w.half_within) in
    let answer = IsNum-limited digits number (max / 2) (2 ^ (bits - 1)) w.half half reads in
    let a = Answers-plus bits digits (limited number (max / 2)) answer in
    subst (IsInteger bits text) (sym is)
    (IsInteger-answers bits Plus text digits (limited number (max / 2)) (HasSign-plus text digits (sym same ∙ front))
    (λ n f. omega (arith, f, w.half_within)) a)

pub IsInteger-minus : (bits max : ℕ) (text bytes digits : List ℕ) (number : Num) {result : Num}
    → (bits ≡ 32) ⊎ (bits ≡ 64) → max + 1 ≡ 2 ^ bits → bytes ≡ text → bytes ≡ 45 ∷ digits
    → IsNum (Natural digits) (2 ^ 64) number → result ≡ negated number max → IsInteger bits text result
IsInteger-minus bits max text bytes digits number width top same front reads is =
    let w = IsWidth-bits bits max width top in
    let a = Answers-minus bits max digits number w reads in
    subst (IsInteger bits text) (sym is)
    (IsInteger-answers bits Minus text digits (negated number max) (HasSign-minus text digits (sym same
    ∙ front)) (λ n f. omega (arith, f, w.half_within)) a)

pub IsInteger-unsigned : (bits max : ℕ) (text bytes : List ℕ) (number : Num) {result : Num} → (bits ≡ 32) ⊎ (bits ≡ 64)
    → max + 1 ≡ 2 ^ bits → bytes ≡ text → ((rest : List ℕ) → bytes ≢ 43 ∷ rest) → ((rest : List ℕ) → bytes ≢ 45 ∷ rest)
    → IsNum (Natural bytes) (2 ^ 64) number → result ≡ limited number max → IsInteger bits text result
IsInteger-unsigned bits max text bytes number {result} width top same not_plus not_minus reads is =
    let w = IsWidth-bits bits max width top in
    let answer = IsNum-limited bytes number max (2 ^ bits) top w.within reads in
    let a = Answers-unsigned bits bytes (limited number max) answer in
    let has = HasSign-unsigned bytes not_plus not_minus in
    let i = IsInteger-answers bits Unsigned bytes bytes (limited number max) has
    (λ n f. omega (arith, f, w.within)) a in
    subst (λ (t : List ℕ). IsInteger bits t result) same (subst (IsInteger bits bytes) (sym is) i)
