-- Places of a text that are looked at each on its own: elements begin at those that have no backslash in front.
use Rattle.std.proofs.Common.{◌≡◌, ◌≢◌, ℕ, zero, suc, ◌+◌, ◌<◌, ◌≤◌, ◌⊎◌, List, take, length, get_or, set, Bool, true}
use Rattle.std.proofs.Common.{false, ◌==◌, ◌&&◌, not, if◌then◌else◌, inl, inr, refl, sym, ap, ◌∙◌, arith, add-zero}
use Rattle.std.proofs.lemmas.Bool.{cases_eq, ne_eqb}
use Rattle.std.proofs.lemmas.List.{take-set}
use Rattle.wc_tokens.specs.Standard.Digits.{IsDigit}
use Rattle.wc_tokens.specs.Standard.Strings.{Elements}
use Rattle.wc_tokens.specs.Reading.Simple.{IsSimpleAt, AreNoted, simple_len, apart, behind_both, left_over}
use Rattle.wc_tokens.proofs.Escapes.SimpleLaws.{Elements-simple, IsPlain-digit}

-- ---- two bytes, and the one behind them

-- the same of what is known of the bytes: whether each is a backslash
abbrev left : Bool → Bool → ℕ
left x y = if y then 2 else (if x then 1 else 0)

abbrev len : Bool → ℕ
len z = if z then 3 else 1

abbrev one : Bool → ℕ
one x = if x then 1 else 0

-- an element begins behind both where neither is a backslash
apart-both : (a b : ℕ) → apart a b ≡ one (behind_both a b == 0)
apart-both a b = go (a == 92) (b == 92)
  where
    go : (x y : Bool) → one (not x && not y) ≡ one (left x y == 0)
    go true true = refl
    go true false = refl
    go false true = refl
    go false false = refl

-- then what is left over behind it is what it has but for its first byte
begins-both : (a b c : ℕ) → behind_both a b ≡ 0 → 1 + behind_both b c ≡ simple_len c
begins-both a b c = go (a == 92) (b == 92) (c == 92)
  where
    go : (x y z : Bool) → left x y ≡ 0 → 1 + left y z ≡ len z
    go true true z e = absurd cc
    go false true z e = absurd cc
    go true false z e = absurd cc
    go false false true e = refl
    go false false false e = refl

-- otherwise the byte is one of those that are left over
goes-both : (a b c : ℕ) → behind_both a b ≢ 0 → (c == 92) ≡ false → 1 + behind_both b c ≡ behind_both a b
goes-both a b c = go (a == 92) (b == 92) (c == 92)
  where
    go : (x y z : Bool) → left x y ≢ 0 → z ≡ false → 1 + left y z ≡ left x y
    go x y true n e = absurd cc
    go x true false n e = refl
    go true false false n e = refl
    go false false false n e = absurd (n refl)

some-both : (a b : ℕ) → behind_both a b ≢ 0 → (a ≡ 92) ⊎ (b ≡ 92)
some-both a b n = elim (cases_eq a 92) [
  | inl e ↦ inl e
  | inr f ↦ elim (cases_eq b 92) [
    | inl e ↦ inr e
    | inr g ↦
        let zero : behind_both a b ≡ 0 = rw (ne_eqb a 92 f, ne_eqb b 92 g) refl in
        absurd (n zero)
  ]
]

-- ---- the two bytes before a place

record IsBefore (text starts : List ℕ) (k : ℕ) : Type 0 where
  a : ℕ
  b : ℕ
  here : left_over text k ≡ behind_both a b
  next : left_over text (suc k) ≡ behind_both b (get_or text k 0)
  start : get_or starts k 0 ≡ apart a b
  first : a ≡ 92 → get_or text k 0 ≢ 92
  second : b ≡ 92 → get_or text k 0 ≢ 92

digit-apart : (c : ℕ) → IsDigit 16 c → c ≢ 92
digit-apart c h = (IsPlain-digit c h).3

-- two digits stand behind a backslash
escape-digits : (text : List ℕ) (k : ℕ) → IsSimpleAt text k → get_or text k 0 ≡ 92
    → (get_or text (k + 1) 0 ≢ 92) × (get_or text (k + 2) 0 ≢ 92)
escape-digits text k h e = elim h [
  | inl plain ↦ absurd (plain.3 e)
  | inr escape ↦ (digit-apart _ escape.1, digit-apart _ escape.2)
]

before : (text values starts : List ℕ) (n k : ℕ) → ((j : ℕ) → j < n → IsSimpleAt text j) → AreNoted text values starts n
    → k < n → IsBefore text starts k
before text values starts n zero simple h lt = record {
  a = 0;
  b = 0;
  here = refl;
  next = refl;
  start = h.first;
  first = λ e. absurd cc;
  second = λ e. absurd cc;
}
before text values starts n (suc zero) simple h lt = record {
  a = 0;
  b = get_or text 0 0;
  here = refl;
  next = refl;
  start = h.second;
  first = λ e. absurd cc;
  second = λ e. (escape-digits text 0 (simple 0 (omega (arith, lt))) e).0;
}
before text values starts n (suc (suc k)) simple h lt =
    let next : k + 1 ≡ suc k = omega arith in
    let two : k + 2 ≡ suc (suc k) = omega arith in
    let more : k + 1 + 1 ≡ suc (suc k) = omega arith in record {
      a = get_or text k 0;
      b = get_or text (k + 1) 0;
      here = refl;
      next = rw next (ap (λ (j : ℕ). behind_both (get_or text (suc k) 0) (get_or text j 0)) (omega arith));
      start = rw two at (h.noted k (omega (arith, lt))).start;
      first = λ e. rw two at (escape-digits text k (simple k (omega (arith, lt))) e).1;
      second = λ e. rw more at (escape-digits text (k + 1) (simple (k + 1) (omega (arith, lt))) e).0;
    }

-- ---- one more place

-- each place stands for one byte at most
pub start-one : (text values starts : List ℕ) (n k : ℕ) → ((j : ℕ) → j < n → IsSimpleAt text j)
    → AreNoted text values starts n → k < n → get_or starts k 0 ≤ 1
start-one text values starts n k simple h lt =
    let p = before text values starts n k simple h lt in
    rw p.start (go (not (p.a == 92) && not (p.b == 92)))
  where
    go : (x : Bool) → one x ≤ 1
    go true = omega arith
    go false = omega arith

-- the value of a place is put where an element begins, and else what comes next is put over it
pub put-one : (text values starts bytes : List ℕ) (n k made : ℕ) → ((j : ℕ) → j < n → IsSimpleAt text j)
    → AreNoted text values starts n → k < n
    → n + 2 ≤ length text → Elements (take (k + left_over text k) text) (take made bytes) → made < length bytes
    → Elements (take (suc k + left_over text (suc k)) text)
    (take (made + get_or starts k 0) (set bytes made (get_or values k 0)))
put-one text values starts bytes n k made simple h lt within es room = elim (cases_eq (left_over text k) 0) [
  | inl here ↦
      let start : get_or starts k 0 ≡ 1 = p.start ∙ apart-both p.a p.b ∙ rw (sym p.here, here) refl in
      let len : suc k + left_over text (suc k) ≡ k + simple_len (get_or text k 0) =
      omega (arith, p.next, begins-both p.a p.b (get_or text k 0) (sym p.here ∙ here)) in
      let same : k + left_over text k ≡ k = omega (arith, here) in
      rw (start, len)
      (Elements-simple text bytes k (simple_len (get_or text k 0)) made (get_or values k 0) (rw same at es)
      ((h.noted k lt).value (simple k lt)) (omega (arith, lt, within)) room)
  | inr some ↦
      let n : behind_both p.a p.b ≢ 0 = λ e. some (p.here ∙ e) in
      let start : get_or starts k 0 ≡ 0 = p.start ∙ apart-both p.a p.b ∙ rw (ne_eqb _ 0 n) refl in
      let other : get_or text k 0 ≢ 92 = elim (some-both p.a p.b n) [ inl e ↦ p.first e | inr e ↦ p.second e ] in
      let len : suc k + left_over text (suc k) ≡ k + left_over text k =
      omega (arith, p.next, p.here, goes-both p.a p.b (get_or text k 0) n (ne_eqb _ 92 other)) in
      rw (start, len, add-zero, take-set bytes made (get_or values k 0)) es
]
  where
    p : IsBefore text starts k
    p = before text values starts n k simple h lt
