-- Laws of the spellings of signed integers.
use Rattle.std.proofs.Common.{◌≡◌, ℕ, ◌+◌, ◌-◌, ◌*◌, ◌^◌, ◌<◌, ◌≤◌, ℤ, pos, ◌+ℤ◌, ◌-ℤ◌, ◌*ℤ◌, ◌≤ℤ◌, ◌<ℤ◌, List, [], ◌∷◌}
use Rattle.std.proofs.Common.{◌++◌, ◌⊎◌, inl, inr, refl, sym, ap, ◌∙◌, arith}
use Rattle.std.proofs.Math.Pow.{pow_pos}
use Rattle.std.proofs.lemmas.List.{append-nil}
use Rattle.std.proofs.lemmas.Nat.{pow-add}
use Rattle.std.proofs.lemmas.Int.{ints}
use Rattle.std.proofs.lemmas.Bool.{cases_lt}
use Rattle.wc_leb128.specs.Standard.Integers.{S, Begins, IsUnfinished}
use Rattle.wc_leb128.specs.Standard.Laws.{IsUnambiguous}
use Rattle.wc_leb128.specs.Standard.Shortest.{HoldsSigned}
use Rattle.wc_leb128.proofs.Laws.Exact.{AreApart, unfinished-begins}
use Rattle.wc_leb128.proofs.Laws.Spellings.{Continues, none_behind}

zero-spelled : (N : ℕ) → S N (0 ∷ []) (pos 0)
zero-spelled N = inl (omega arith, pow_pos (N - 1), refl, refl)

begins-tail : (N b : ℕ) (a : List ℕ) → 128 ≤ b → Begins (S N) (b ∷ a) → Begins (S (N - 7)) a
begins-tail N b a le h =
    elim h.2 [
      | inl s ↦ absurd (omega arith)
      | inr s ↦ elim s [
        | inl t ↦ absurd (omega arith)
        | inr t ↦ (h.0, t.3, t.4)
      ]
    ]

pub continues : Continues ℤ S
continues = record {
  nothing-unfinished = λ N. (0, ([], pos 0, zero-spelled N));
  begins-tail = begins-tail;
  tail-begins = λ N b a le lt more h.
      (h.0, (pos 128 *ℤ h.1) +ℤ (pos b -ℤ pos 128), inr (inr (le, lt, more, h.1, h.2, refl)));
}

-- a byte from 128 on needs more bits than seven
pub begins-more : (N b : ℕ) (a : List ℕ) → 128 ≤ b → Begins (S N) (b ∷ a) → 7 < N
begins-more N b a le h =
    elim h.2 [
      | inl s ↦ absurd (omega arith)
      | inr s ↦ elim s [ inl t ↦ absurd (omega arith) | inr t ↦ t.2 ]
    ]

-- behind a byte below 128 stands none
pub last-alone : (N b : ℕ) (c : List ℕ) (z : ℤ) → b < 128 → S N (b ∷ c) z → S N (b ∷ []) z
last-alone N b c z lt (inl s) = inl (s.0, s.1, refl, s.3)
last-alone N b c z lt (inr (inl s)) = inr (inl (s.0, s.1, s.2, refl, s.4))
last-alone N b c z lt (inr (inr s)) = absurd (omega arith)

unfinished-tail-of : (N b x : ℕ) (a c : List ℕ) (z : ℤ) → S N (b ∷ (x ∷ c)) z
    → (128 ≤ b) × (b < 256) × (7 < N) × (m : ℤ) × S (N - 7) (x ∷ c) m
unfinished-tail-of N b x a c z (inl s) = absurd cc
unfinished-tail-of N b x a c z (inr (inl s)) = absurd cc
unfinished-tail-of N b x a c z (inr (inr s)) = (s.0, s.1, s.2, s.3, s.4)

pub unfinished-tail : (N b : ℕ) (a : List ℕ) → IsUnfinished (S N) (b ∷ a)
    → (128 ≤ b) × (b < 256) × (7 < N) × IsUnfinished (S (N - 7)) a
unfinished-tail N b [] h =
    let t = unfinished-tail-of N b h.0 [] h.1.0 h.1.1 h.1.2 in
    (t.0, t.1, t.2, (h.0, (h.1.0, t.3, t.4)))
unfinished-tail N b (x ∷ a) h =
    let t = unfinished-tail-of N b x [] ((a ++ h.0 ∷ []) ++ h.1.0) h.1.1 h.1.2 in
    (t.0, t.1, t.2, (h.0, (h.1.0, t.3, t.4)))

-- no spelling begins another, and each has one value
pub one-value : (N : ℕ) (a b x y : List ℕ) (m n : ℤ) → S N a m → S N b n → a ++ x ≡ b ++ y → (a ≡ b) × (m ≡ n)
one-value N [] b x y m n h k e = absurd h
one-value N (c ∷ a) [] x y m n h k e = absurd k
one-value N (c ∷ a) (d ∷ b) x y m n (inl s) (inl t) e = let heads : c ≡ d = cc in (cc, cc)
one-value N (c ∷ a) (d ∷ b) x y m n (inl s) (inr (inl t)) e = let heads : c ≡ d = cc in absurd (omega arith)
one-value N (c ∷ a) (d ∷ b) x y m n (inl s) (inr (inr t)) e = let heads : c ≡ d = cc in absurd (omega arith)
one-value N (c ∷ a) (d ∷ b) x y m n (inr (inl s)) (inl t) e = let heads : c ≡ d = cc in absurd (omega arith)
one-value N (c ∷ a) (d ∷ b) x y m n (inr (inl s)) (inr (inl t)) e = let heads : c ≡ d = cc in (cc, cc)
one-value N (c ∷ a) (d ∷ b) x y m n (inr (inl s)) (inr (inr t)) e = let heads : c ≡ d = cc in absurd (omega arith)
one-value N (c ∷ a) (d ∷ b) x y m n (inr (inr s)) (inl t) e = let heads : c ≡ d = cc in absurd (omega arith)
one-value N (c ∷ a) (d ∷ b) x y m n (inr (inr s)) (inr (inl t)) e = let heads : c ≡ d = cc in absurd (omega arith)
one-value N (c ∷ a) (d ∷ b) x y m n (inr (inr s)) (inr (inr t)) e =
    let heads : c ≡ d = cc in
    let tails : a ++ x ≡ b ++ y = cc in
    let r = one-value (N - 7) a b x y s.3 t.3 s.4 t.4 tails in
    (cc, cc)

-- what begins a longer spelling is none
pub unfinished-unspelled : (N : ℕ) (a : List ℕ) (z : ℤ) → IsUnfinished (S N) a → S N a z → ⊥
unfinished-unspelled N [] z h k = k
unfinished-unspelled N (b ∷ a) z h (inl s) = let t = unfinished-tail N b a h in absurd (omega arith)
unfinished-unspelled N (b ∷ a) z h (inr (inl s)) = let t = unfinished-tail N b a h in absurd (omega arith)
unfinished-unspelled N (b ∷ a) z h (inr (inr s)) =
    let t = unfinished-tail N b a h in unfinished-unspelled (N - 7) a s.3 t.3 s.4

pub unambiguous : (N : ℕ) → IsUnambiguous (S N)
unambiguous N = record {
  one_value = λ a m n h k. (one-value N a a [] [] m n h k refl).1;
  begins_no_other = λ a c m n h k. none_behind a c (one-value N a (a ++ c) c [] m n h k (sym (append-nil (a ++ c)))).0;
}

pub apart : (N : ℕ) → AreApart ℤ (S N)
apart N = record { one_value = (unambiguous N).one_value; unfinished = unfinished-unspelled N }

high_fits : (b p : ℕ) (m z : ℤ) → b < 256 → 128 ≤ b → (pos 0 -ℤ pos p) ≤ℤ m → m <ℤ pos p
    → z ≡ (pos 128 *ℤ m) +ℤ (pos b -ℤ pos 128)
    → ((pos 0 -ℤ pos (128 * p)) ≤ℤ z) × (z <ℤ pos (128 * p))
high_fits b p m z lt le low high e = (omega (arith, ints, low, high, e), omega (arith, ints, low, high, e))

-- an sN is one of the numbers that N bits hold
pub spelled-holds : (N : ℕ) (a : List ℕ) (z : ℤ) → S N a z → HoldsSigned N z
spelled-holds N [] z h = absurd h
spelled-holds N (b ∷ a) z (inl s) = let e = s.3 in let l = s.1 in (omega (arith, ints), omega (arith, ints))
spelled-holds N (b ∷ a) z (inr (inl s)) =
    let e = s.4 in
    let l = s.2 in
    let k = s.1 in (omega (arith, ints), omega (arith, ints))
spelled-holds N (b ∷ a) z (inr (inr s)) =
    let r = spelled-holds (N - 7) a s.3 s.4 in
    let k : N - 1 ≡ 7 + (N - 7 - 1) = omega arith in
    let e : 2 ^ (N - 1) ≡ 128 * 2 ^ (N - 7 - 1) = ap (λ (x : ℕ). 2 ^ x) k ∙ pow-add 2 7 (N - 7 - 1) in
    rw e (high_fits b (2 ^ (N - 7 - 1)) s.3 z s.1 s.0 r.0 r.1 s.5)

alone : (N b x : ℕ) (a c : List ℕ) (z : ℤ) → b < 128 → S N (b ∷ (x ∷ c)) z → ⊥
alone N b x a c z lt (inl s) = absurd cc
alone N b x a c z lt (inr (inl s)) = absurd cc
alone N b x a c z lt (inr (inr s)) = absurd (omega arith)

last_bits : (N b : ℕ) (z : ℤ) → b < 128 → S N (b ∷ []) z
    → ((b < 64) × (b < 2 ^ (N - 1))) ⊎ ((64 ≤ b) × (128 ≤ b + 2 ^ (N - 1)))
last_bits N b z lt (inl s) = inl (s.0, s.1)
last_bits N b z lt (inr (inl s)) = inr (s.0, s.2)
last_bits N b z lt (inr (inr s)) = absurd (omega arith)

last_not : (N b : ℕ) → b < 128 → ((64 ≤ b) ⊎ (2 ^ (N - 1) ≤ b)) → ((b < 64) ⊎ (b + 2 ^ (N - 1) < 128))
    → Begins (S N) (b ∷ []) → ⊥
last_not N b lt low high g =
    let s = last_bits N b g.1 lt (last-alone N b g.0 g.1 lt g.2) in
    elim s [
      | inl t ↦ elim low [ inl k ↦ absurd (omega arith) | inr k ↦ absurd (omega arith) ]
      | inr t ↦ elim high [ inl k ↦ absurd (omega arith) | inr k ↦ absurd (omega arith) ]
    ]

-- whether a spelling begins with a list is decided by its bytes
last_decided : (N b : ℕ) (a : List ℕ) → b < 128 → Begins (S N) (b ∷ a) ⊎ (Begins (S N) (b ∷ a) → ⊥)
last_decided N b (x ∷ a) lt = inr (λ g. alone N b x [] (a ++ g.0) g.1 lt g.2)
last_decided N b [] lt =
    elim (cases_lt b 64) [
      | inl low ↦ elim (cases_lt b (2 ^ (N - 1))) [
        | inl h ↦ inl ([], pos b, inl (low, h, refl, refl))
        | inr h ↦ inr (last_not N b lt (inr h) (inl low))
      ]
      | inr high ↦ elim (cases_lt (b + 2 ^ (N - 1)) 128) [
        | inl h ↦ inr (last_not N b lt (inl high) (inr h))
        | inr h ↦ inl ([], pos b -ℤ pos 128, inr (inl (high, lt, h, refl, refl)))
      ]
    ]

begins-byte : (N b : ℕ) (a : List ℕ) → 128 ≤ b → Begins (S N) (b ∷ a) → b < 256
begins-byte N b a le h =
    elim h.2 [
      | inl s ↦ absurd (omega arith)
      | inr s ↦ elim s [ inl t ↦ absurd (omega arith) | inr t ↦ t.1 ]
    ]

pub begins-decided : (N : ℕ) (a : List ℕ) → Begins (S N) a ⊎ (Begins (S N) a → ⊥)
begins-decided N [] = inl (unfinished-begins ℤ (S N) [] (continues.nothing-unfinished N))
begins-decided N (b ∷ a) =
    elim (cases_lt b 128) [
      | inl lt ↦ last_decided N b a lt
      | inr le ↦ elim (cases_lt b 256) [
        | inr high ↦ inr (λ g. let lt = begins-byte N b a le g in absurd (omega arith))
        | inl fits ↦ elim (cases_lt 7 N) [
          | inr few ↦ inr (λ g. let lt = begins-more N b a le g in absurd (omega arith))
          | inl more ↦ elim (begins-decided (N - 7) a) [
            | inl h ↦ inl (continues.tail-begins N b a le fits more h)
            | inr h ↦ inr (λ g. h (continues.begins-tail N b a le g))
          ]
        ]
      ]
    ]
