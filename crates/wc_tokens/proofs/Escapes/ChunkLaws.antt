-- Bytes that are linked to those behind them, chunk after chunk.
use Rattle.std.proofs.Common.{◌≡◌, ℕ, zero, suc, ◌+◌, ◌-◌, ◌<◌, ◌≤◌, List, inl, inr, add-zero, arith}
use Rattle.std.proofs.lemmas.Bool.{cases_lt}
use Rattle.wc_tokens.specs.Reading.Simple.{IsSimpleAt, IsLinkedAt, IsBegunAt}

-- a chunk of linked bytes stands from a place on
abbrev pub IsLinkedFrom : List ℕ → ℕ → Type 0
IsLinkedFrom text at = (k : ℕ) → k < 16 → IsLinkedAt text (at + k)

-- behind a linked byte a digit stands where that is a backslash
linked-next : (text : List ℕ) (k : ℕ) → IsLinkedAt text k → IsBegunAt text (k + 1)
linked-next text k h = λ e.
    let same : k + 1 + 1 ≡ k + 2 = omega arith in
    rw same (h.first_digit e)

-- each place in a chunk begins as the first one does
begun-at : (text : List ℕ) (at k : ℕ) → IsBegunAt text at → IsLinkedFrom text at → k ≤ 16 → IsBegunAt text (at + k)
begun-at text at zero begun linked le = rw add-zero begun
begun-at text at (suc k) begun linked le =
    let same : at + k + 1 ≡ at + suc k = omega arith in
    rw same at (linked-next text (at + k) (linked k (omega (arith, le))))

-- behind the chunk too
pub linked-begun : (text : List ℕ) (at : ℕ) → IsBegunAt text at → IsLinkedFrom text at → IsBegunAt text (at + 16)
linked-begun text at begun linked = begun-at text at 16 begun linked (omega arith)

linked-one : (text : List ℕ) (k : ℕ) → IsBegunAt text k → IsLinkedAt text k → IsSimpleAt text k
linked-one text k begun h = elim h.simple [
  | inl plain ↦ inl plain
  | inr escape ↦ inr (escape, begun escape, h.last_digit escape)
]

-- the first bytes are simple, and so are these many more
pub linked-simple : (text : List ℕ) (at : ℕ) → ((k : ℕ) → k < at → IsSimpleAt text k) → IsBegunAt text at
    → IsLinkedFrom text at → (k : ℕ) → k < at + 16 → IsSimpleAt text k
linked-simple text at before begun linked k lt = elim (cases_lt k at) [
  | inl below ↦ before k below
  | inr above ↦
      let same : at + (k - at) ≡ k = omega (arith, above) in
      let within : k - at < 16 = omega (arith, above, lt) in
      let begins : IsBegunAt text (at + (k - at)) = begun-at text at (k - at) begun linked (omega (arith, within)) in
      rw same at (linked-one text (at + (k - at)) begins (linked (k - at) within))
]
