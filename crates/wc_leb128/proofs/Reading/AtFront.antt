-- The spelling that a list begins with, looked for byte by byte.
use Rattle.std.proofs.Common.{◌≡◌, ◌↔◌, ℕ, List, [], ◌∷◌, ◌++◌, Option, Some, ◌⊎◌, inl, inr, refl, ap, ◌∙◌}
use Rattle.std.proofs.Common.{length, append_assoc, length-append, arith}
use Rattle.std.proofs.lemmas.List.{append-nil}
use Rattle.wc_leb128.specs.declared.step.Step.TheVariants.{More, Done, Bad}
use Rattle.wc_leb128.specs.Standard.Integers.{IsUnfinished, IsAtFront}
use Rattle.wc_leb128.specs.Standard.Laws.{IsUnambiguous}
use Rattle.wc_leb128.specs.Standard.Pushing.{AnswersFrom}

-- of two lists that one list begins with, one begins the other
split : (a b x y : List ℕ) → a ++ x ≡ b ++ y
    → ((c : List ℕ) × (a ≡ b ++ c)) ⊎ ((d : ℕ) × (c : List ℕ) × (b ≡ a ++ d ∷ c) × (x ≡ d ∷ (c ++ y)))
split a [] x y e = inl (a, refl)
split [] (d ∷ c) x y e = inr (d, c, refl, e)
split (d ∷ a) (f ∷ b) x y e =
    let heads : d ≡ f = cc in
    let tails : a ++ x ≡ b ++ y = cc in
    elim (split a b x y tails) [
      | inl s ↦ inl (s.0, let t = s.1 in cc)
      | inr s ↦ inr (s.0, s.1, (let t = s.2 in cc), s.3)
    ]

some_left : (c x : List ℕ) (b : ℕ) → c ++ b ∷ x ≡ [] → ⊥
some_left [] x b e = cc
some_left (d ∷ c) x b e = cc

-- the bytes of an unfinished spelling, and those left behind them
pub record IsMidway (A : Type 0) (R : List ℕ → A → Type 0) (whole : List ℕ) (kept : Option (List ℕ)) (rest : List ℕ)
    : Type 0 where
  pub begun : List ℕ
  pub is_kept : kept ≡ Some begun
  pub unfinished : IsUnfinished R begun
  pub whole_is : whole ≡ begun ++ rest

module _ (A : Type 0) (R : List ℕ → A → Type 0) (l : IsUnambiguous R) where
  -- a spelling at the front has all of an unfinished one, and at least one more byte
  goes_on : (a x : List ℕ) → IsUnfinished R a → (n : A) (y : List ℕ) → IsAtFront R (a ++ x) n y
      → (b : ℕ) × (c : List ℕ) × (x ≡ b ∷ (c ++ y)) × R (a ++ b ∷ c) n
  goes_on a x u n y h =
      elim (split a h.0 x y h.1) [
        | inl s ↦
            let longer = rw (append_assoc a (u.0 ∷ []) u.1.0, s.1, append_assoc) at u.1.2 in
            absurd (some_left s.0 u.1.0 u.0 (l.begins_no_other h.0 (s.0 ++ u.0 ∷ u.1.0) n u.1.1 h.2 longer))
        | inr s ↦ (s.0, s.1, s.3, rw s.2 at h.2)
      ]

  headed : (a x c y : List ℕ) (b d : ℕ) (n : A) → b ∷ x ≡ d ∷ (c ++ y) → R (a ++ d ∷ c) n
      → (x ≡ c ++ y) × R ((a ++ b ∷ []) ++ c) n
  headed a x c y b d n e r =
      let same : b ≡ d = cc in
      (cc, rw (append_assoc a (b ∷ []) c, same) r)

  -- so it has the next byte
  takes_next : (a x : List ℕ) (b : ℕ) → IsUnfinished R a → (n : A) (y : List ℕ) → IsAtFront R (a ++ b ∷ x) n y
      → (c : List ℕ) × (x ≡ c ++ y) × R ((a ++ b ∷ []) ++ c) n
  takes_next a x b u n y h =
      let g = goes_on a (b ∷ x) u n y h in
      let t = headed a x g.1 y b g.0 n g.2 g.3 in
      (g.1, t.0, t.1)

  -- what a spelling begins is that spelling
  none_more : (a c : List ℕ) (v n : A) → R a v → R (a ++ c) n → (c ≡ []) × (v ≡ n)
  none_more a c v n s r =
      let none = l.begins_no_other a c v n s r in
      (none, l.one_value a v n s (rw append-nil at (rw none at r)))

  -- one more byte ends a spelling: it is the one at the front
  front-spelled : (a x : List ℕ) (b : ℕ) (v : A) → IsUnfinished R a → R (a ++ b ∷ []) v → (n : A) (y : List ℕ)
      → IsAtFront R (a ++ b ∷ x) n y → (v ≡ n) × (x ≡ y)
  front-spelled a x b v u s n y h =
      let t = takes_next a x b u n y h in
      let e = none_more (a ++ b ∷ []) t.0 v n s t.2 in
      (e.1, rw e.0 at t.1)

  -- no byte has come
  pub front-start : (whole : List ℕ) (kept : Option (List ℕ)) → IsUnfinished R [] → kept ≡ Some []
      → IsMidway A R whole kept whole
  front-start whole kept u e = record { begun = []; is_kept = e; unfinished = u; whole_is = refl }

  -- the next byte ends a spelling
  pub front-done : (whole rest : List ℕ) (kept new : Option (List ℕ)) (b : ℕ) (v : A)
      → IsMidway A R whole kept (b ∷ rest) → AnswersFrom R kept b (Done v) new
      → (n : A) (y : List ℕ) → IsAtFront R whole n y ↔ ((v ≡ n) × (rest ≡ y))
  front-done whole rest kept new b v m h n y =
      let s = rw m.is_kept at h in (
        (λ f. front-spelled m.begun rest b v m.unfinished s.0 n y (rw m.whole_is at f)),
        (λ e. (m.begun ++ b ∷ [], m.whole_is ∙ rw (append_assoc, e.1) refl, rw e.0 at s.0)),
      )

  -- no spelling has the next byte there
  pub front-bad : (whole rest : List ℕ) (kept new : Option (List ℕ)) (b : ℕ)
      → IsMidway A R whole kept (b ∷ rest) → AnswersFrom R kept b Bad new
      → (n : A) (y : List ℕ) → IsAtFront R whole n y ↔ ⊥
  front-bad whole rest kept new b m h n y =
      let s = rw m.is_kept at h in (
        (λ f.
            let t = takes_next m.begun rest b m.unfinished n y (rw m.whole_is at f) in s.0 (t.0, n, t.2)),
        (λ e. absurd e),
      )

  -- the spelling goes on behind the next byte
  pub front-more : (whole rest : List ℕ) (kept new : Option (List ℕ)) (b : ℕ)
      → IsMidway A R whole kept (b ∷ rest) → AnswersFrom R kept b More new → IsMidway A R whole new rest
  front-more whole rest kept new b m h =
      let s = rw m.is_kept at h in
      record {
        begun = m.begun ++ b ∷ [];
        is_kept = s.1;
        unfinished = s.0;
        whole_is = rw (append_assoc m.begun (b ∷ []) rest) m.whole_is;
      }

  -- no byte is left
  pub front-end : (whole rest : List ℕ) (kept : Option (List ℕ)) → IsMidway A R whole kept rest → length rest ≡ 0
      → (n : A) (y : List ℕ) → IsAtFront R whole n y ↔ ⊥
  front-end whole rest kept m none n y = (
    (λ f.
        let g = goes_on m.begun rest m.unfinished n y (rw m.whole_is at f) in
        omega (arith, simp length-append at (ap length g.2))),
    (λ e. absurd e),
  )
