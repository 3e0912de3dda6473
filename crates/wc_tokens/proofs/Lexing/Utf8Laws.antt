-- Bytes are UTF-8, or there is a longest front that is.
use Rattle.std.proofs.Common.{◌≡◌, ℕ, zero, suc, ◌<◌, ◌≤◌, true, false, List, length, take, IsUtf8, sym, subst, ◌∙◌}
use Rattle.std.proofs.Common.{◌⊎◌, inl, inr, arith}
use Rattle.std.proofs.lemmas.Bool.{cases_lt, cases_Bool}
use Rattle.std.proofs.lemmas.List.{take_all}
use Rattle.std.proofs.lemmas.Str.{IsUtf8-from_is_utf8, is_utf8-from_IsUtf8, IsUtf8-nil}
use Rattle.std.specs.Str.{IsValidUpTo, is_utf8}

-- of the fronts that are at most so long, the longest that is UTF-8
record LongestUpTo (bytes : List ℕ) (most : ℕ) : Type 0 where
  len : ℕ
  within : len ≤ most
  front : IsUtf8 (take len bytes)
  longest : (m : ℕ) → len < m → m ≤ most → ¬ (IsUtf8 (take m bytes))

not-front : (bytes : List ℕ) (m n : ℕ) → m ≡ n → is_utf8 (take n bytes) ≡ false → ¬ (IsUtf8 (take m bytes))
not-front bytes m n e f u =
    let t : is_utf8 (take n bytes) ≡ true =
    is_utf8-from_IsUtf8 (take n bytes) (subst (λ (k : ℕ). IsUtf8 (take k bytes)) e u) in
    absurd cc

longest-up-to : (bytes : List ℕ) (most : ℕ) → LongestUpTo bytes most
longest-up-to bytes zero =
    record { len = 0; within = omega arith; front = IsUtf8-nil; longest = λ m l k. absurd (omega (arith, l, k)) }
longest-up-to bytes (suc most) = elim (cases_Bool (is_utf8 (take (suc most) bytes))) [
  | inl e ↦ record {
    len = suc most;
    within = omega arith;
    front = IsUtf8-from_is_utf8 (take (suc most) bytes) e;
    longest = λ m l k. absurd (omega (arith, l, k));
  }
  | inr e ↦
      let w = longest-up-to bytes most in
      record {
        len = w.len;
        within = omega (arith, w.within);
        front = w.front;
        longest = λ m l k. elim (cases_lt m (suc most)) [
          | inl s ↦ w.longest m l (omega (arith, s))
          | inr s ↦ not-front bytes m (suc most) (omega (arith, s, k)) e
        ];
      }
]

pub IsUtf8-or-front : (bytes : List ℕ) → IsUtf8 bytes ⊎ ((at : ℕ) × IsValidUpTo bytes at)
IsUtf8-or-front bytes =
    let w = longest-up-to bytes (length bytes) in
    elim (cases_lt w.len (length bytes)) [
      | inl l ↦ inr (
        w.len,
        record {
          short = l;
          front = w.front;
          longest = λ m k. elim (cases_lt (length bytes) m) [
            | inl past ↦ λ u. w.longest (length bytes) l (omega arith)
                (subst IsUtf8 (take_all m bytes (omega (arith, past)) ∙ sym
                (take_all (length bytes) bytes (omega arith))) u)
            | inr within ↦ w.longest m k within
          ];
        },
      )
      | inr l ↦ inl (subst IsUtf8 (take_all w.len bytes l) w.front)
    ]

-- one place is the end of the longest front, and there is none in UTF-8
pub IsValidUpTo-same : (bytes : List ℕ) (m n : ℕ) → IsValidUpTo bytes m → IsValidUpTo bytes n → m ≡ n
IsValidUpTo-same bytes m n a b = elim (cases_lt m n) [
  | inl l ↦ absurd (a.longest n l b.front)
  | inr l ↦ elim (cases_lt n m) [
    | inl k ↦ absurd (b.longest m k a.front)
    | inr k ↦ omega (arith, l, k)
  ]
]

pub not-IsUtf8 : (bytes : List ℕ) (at : ℕ) → IsValidUpTo bytes at → ¬ (IsUtf8 bytes)
not-IsUtf8 bytes at v u =
    v.longest (length bytes) v.short (subst IsUtf8 (sym (take_all (length bytes) bytes (omega arith))) u)
