-- Laws of the spellings of unsigned integers.
use Rattle.std.proofs.Common.{◌≡◌, ℕ, ◌+◌, ◌-◌, ◌*◌, ◌^◌, ◌<◌, ◌≤◌, List, [], ◌∷◌, ◌++◌, ◌⊎◌, inl, inr, refl, sym, ap}
use Rattle.std.proofs.Common.{◌∙◌, arith}
use Rattle.std.proofs.Math.Pow.{pow_pos}
use Rattle.std.proofs.lemmas.List.{append-nil}
use Rattle.std.proofs.lemmas.Nat.{pow-add}
use Rattle.std.proofs.lemmas.Bool.{cases_lt}
use Rattle.wc_leb128.specs.Standard.Integers.{U, Begins, IsUnfinished}
use Rattle.wc_leb128.specs.Standard.Laws.{IsUnambiguous}
use Rattle.wc_leb128.proofs.Laws.Exact.{AreApart, unfinished-begins}
use Rattle.wc_leb128.proofs.Laws.Spellings.{Continues, none_behind}

-- a byte that begins a spelling
pub record MayStand (N b : ℕ) : Type 0 where
  pub either : ((b < 128) × (b < 2 ^ N)) ⊎ ((128 ≤ b) × (b < 256) × (7 < N))

zero-spelled : (N : ℕ) → U N (0 ∷ []) 0
zero-spelled N = inl (omega arith, pow_pos N, refl, refl)

pub begins-stands : (N b : ℕ) (a : List ℕ) → Begins (U N) (b ∷ a) → MayStand N b
begins-stands N b a h =
    elim h.2 [
      | inl s ↦ record { either = inl (s.0, s.1) }
      | inr s ↦ record { either = inr (s.0, s.1, s.2) }
    ]

begins-tail : (N b : ℕ) (a : List ℕ) → 128 ≤ b → Begins (U N) (b ∷ a) → Begins (U (N - 7)) a
begins-tail N b a le h =
    elim h.2 [
      | inl s ↦ absurd (omega arith)
      | inr s ↦ (h.0, s.3, s.4)
    ]

pub continues : Continues ℕ U
continues = record {
  nothing-unfinished = λ N. (0, ([], 0, zero-spelled N));
  begins-tail = begins-tail;
  tail-begins = λ N b a le lt more h. (h.0, 128 * h.1 + (b - 128), inr (le, lt, more, h.1, h.2, refl));
}

pub unfinished-tail : (N b : ℕ) (a : List ℕ) → IsUnfinished (U N) (b ∷ a)
    → (128 ≤ b) × (b < 256) × (7 < N) × IsUnfinished (U (N - 7)) a
unfinished-tail N b [] h =
    elim h.1.2 [
      | inl s ↦ absurd cc
      | inr s ↦ (s.0, s.1, s.2, (h.0, (h.1.0, s.3, s.4)))
    ]
unfinished-tail N b (x ∷ a) h =
    elim h.1.2 [
      | inl s ↦ absurd cc
      | inr s ↦ (s.0, s.1, s.2, (h.0, (h.1.0, s.3, s.4)))
    ]

-- no spelling begins another, and each has one value
pub one-value : (N : ℕ) (a b x y : List ℕ) (m n : ℕ) → U N a m → U N b n → a ++ x ≡ b ++ y → (a ≡ b) × (m ≡ n)
one-value N [] b x y m n h k e = absurd h
one-value N (c ∷ a) [] x y m n h k e = absurd k
one-value N (c ∷ a) (d ∷ b) x y m n h k e =
    let heads : c ≡ d = cc in
    let tails : a ++ x ≡ b ++ y = cc in
    elim h [
      | inl s ↦ elim k [
        | inl t ↦ (cc, cc)
        | inr t ↦ absurd (omega arith)
      ]
      | inr s ↦ elim k [
        | inl t ↦ absurd (omega arith)
        | inr t ↦ let r = one-value (N - 7) a b x y s.3 t.3 s.4 t.4 tails in (cc, cc)
      ]
    ]

-- what begins a longer spelling is none
pub unfinished-unspelled : (N : ℕ) (a : List ℕ) (n : ℕ) → IsUnfinished (U N) a → U N a n → ⊥
unfinished-unspelled N [] n h k = k
unfinished-unspelled N (b ∷ a) n h k =
    let t = unfinished-tail N b a h in
    elim k [
      | inl s ↦ absurd (omega arith)
      | inr s ↦ unfinished-unspelled (N - 7) a s.3 t.3 s.4
    ]

high_below : (m q b : ℕ) → m < q → b < 128 → 128 * m + b < 128 * q
high_below m q b h k = omega arith

-- a uN is below 2 ^ N
pub spelled-below : (N : ℕ) (a : List ℕ) (n : ℕ) → U N a n → n < 2 ^ N
spelled-below N [] n h = absurd h
spelled-below N (b ∷ a) n h =
    elim h [
      | inl s ↦ rw s.3 s.1
      | inr s ↦
          let r = spelled-below (N - 7) a s.3 s.4 in
          let e : 2 ^ N ≡ 128 * 2 ^ (N - 7) = let k : N ≡ 7 + (N - 7) = omega arith in
          ap (λ (x : ℕ). 2 ^ x) k ∙ pow-add 2 7 (N - 7) in
          let lt = high_below s.3 (2 ^ (N - 7)) (b - 128) r (omega arith) in
          rw (s.5, e) lt
    ]

pub unambiguous : (N : ℕ) → IsUnambiguous (U N)
unambiguous N = record {
  one_value = λ a m n h k. (one-value N a a [] [] m n h k refl).1;
  begins_no_other = λ a c m n h k. none_behind a c (one-value N a (a ++ c) c [] m n h k (sym (append-nil (a ++ c)))).0;
}

pub apart : (N : ℕ) → AreApart ℕ (U N)
apart N = record { one_value = (unambiguous N).one_value; unfinished = unfinished-unspelled N }

alone : (N b x : ℕ) (a : List ℕ) → b < 128 → Begins (U N) (b ∷ (x ∷ a)) → ⊥
alone N b x a lt h =
    elim h.2 [
      | inl s ↦ absurd cc
      | inr s ↦ absurd (omega arith)
    ]

-- whether a spelling begins with a list is decided by its bytes
last_decided : (N b : ℕ) (a : List ℕ) → b < 128 → Begins (U N) (b ∷ a) ⊎ (Begins (U N) (b ∷ a) → ⊥)
last_decided N b (x ∷ a) lt = inr (alone N b x a lt)
last_decided N b [] lt =
    elim (cases_lt b (2 ^ N)) [
      | inl h ↦ inl ([], b, inl (lt, h, refl, refl))
      | inr h ↦ inr (λ g. let s = begins-stands N b [] g in
          elim s.either [ inl t ↦ absurd (omega arith) | inr t ↦ absurd (omega arith) ])
    ]

stands_not : (N b : ℕ) (a : List ℕ) → 128 ≤ b → (256 ≤ b) ⊎ (N ≤ 7) → Begins (U N) (b ∷ a) → ⊥
stands_not N b a le (inl h) g =
    let s = begins-stands N b a g in elim s.either [ inl t ↦ omega arith | inr t ↦ omega arith ]
stands_not N b a le (inr h) g =
    let s = begins-stands N b a g in elim s.either [ inl t ↦ omega arith | inr t ↦ omega arith ]

pub begins-decided : (N : ℕ) (a : List ℕ) → Begins (U N) a ⊎ (Begins (U N) a → ⊥)
begins-decided N [] = inl (unfinished-begins ℕ (U N) [] (continues.nothing-unfinished N))
begins-decided N (b ∷ a) =
    elim (cases_lt b 128) [
      | inl lt ↦ last_decided N b a lt
      | inr le ↦ elim (cases_lt b 256) [
        | inr high ↦ inr (stands_not N b a le (inl high))
        | inl fits ↦ elim (cases_lt 7 N) [
          | inr few ↦ inr (stands_not N b a le (inr few))
          | inl more ↦ elim (begins-decided (N - 7) a) [
            | inl h ↦ inl (continues.tail-begins N b a le fits more h)
            | inr h ↦ inr (λ g. h (continues.begins-tail N b a le g))
          ]
        ]
      ]
    ]
