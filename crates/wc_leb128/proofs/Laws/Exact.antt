-- The answers to a list of bytes exclude one another.
use Rattle.std.proofs.Common.{◌≡◌, ℕ, List, [], ◌∷◌, ◌++◌, Option, ◌⊎◌, inl, inr, refl, append_assoc}
use Rattle.std.proofs.lemmas.List.{append-nil}
use Rattle.wc_leb128.specs.declared.step.Step.{Step}
use Rattle.wc_leb128.specs.declared.step.Step.TheVariants.{More, Done, Bad}
use Rattle.wc_leb128.specs.Standard.Integers.{Begins, IsUnfinished}
use Rattle.wc_leb128.specs.Standard.Laws.{IsOneOfThree, IsExact}
use Rattle.wc_leb128.specs.Standard.Pushing.{Answers}

pub spelled-begins : (A : Type 0) (R : List ℕ → A → Type 0) (a : List ℕ) (n : A) → R a n → Begins R a
spelled-begins A R a n h = ([], n, rw append-nil h)

pub unfinished-begins : (A : Type 0) (R : List ℕ → A → Type 0) (a : List ℕ) → IsUnfinished R a → Begins R a
unfinished-begins A R a h = (h.0 ∷ h.1.0, h.1.1, rw (append_assoc a (h.0 ∷ []) h.1.0) at h.1.2)

-- what stands before the last bytes of a spelling is unfinished
pub prefix-unfinished : (A : Type 0) (R : List ℕ → A → Type 0) (a : List ℕ) (b : ℕ) (c : List ℕ) (n : A)
    → R (a ++ b ∷ c) n → IsUnfinished R a
prefix-unfinished A R a b c n h = (b, (c, n, rw (append_assoc a (b ∷ []) c) h))

begun : (A : Type 0) (R : List ℕ → A → Type 0) (a c : List ℕ) (n : A) → R (a ++ c) n
    → IsUnfinished R a ⊎ ((m : A) × R a m)
begun A R a [] n h = inr (n, rw append-nil at h)
begun A R a (b ∷ c) n h = inl (prefix-unfinished A R a b c n h)

-- what a spelling begins with is unfinished, or that spelling
pub begins-cases : (A : Type 0) (R : List ℕ → A → Type 0) (a : List ℕ) → Begins R a
    → IsUnfinished R a ⊎ ((n : A) × R a n)
begins-cases A R a h = begun A R a h.0 h.1 h.2

pub one_of_three : (A : Type 0) (R : List ℕ → A → Type 0) (a : List ℕ) → Begins R a ⊎ (Begins R a → ⊥)
    → IsOneOfThree R a
one_of_three A R a (inr none) = inr (inr none)
one_of_three A R a (inl some) =
    elim (begins-cases A R a some) [
      | inl u ↦ inl u
      | inr s ↦ inr (inl s)
    ]

-- what makes the answers exclude one another
pub record AreApart (A : Type 0) (R : List ℕ → A → Type 0) : Type 0 where
  pub one_value : (a : List ℕ) (m n : A) → R a m → R a n → m ≡ n
  pub unfinished : (a : List ℕ) (n : A) → IsUnfinished R a → R a n → ⊥

pub exact : (A : Type 0) (R : List ℕ → A → Type 0) → AreApart A R
    → (a : List ℕ) (answer : Step A) (new : Option (List ℕ))
    → Answers R a answer new → IsExact R a answer
exact A R l a (Done m) new h = record {
  done = λ n. ((λ e. let f : m ≡ n = cc in rw f at h.0), (λ k. let f = l.one_value a m n h.0 k in cc));
  more = ((λ e. absurd cc), (λ u. absurd (l.unfinished a m u h.0)));
  bad = ((λ e. absurd cc), (λ g. absurd (g (spelled-begins A R a m h.0))));
}
exact A R l a More new h = record {
  done = λ n. ((λ e. absurd cc), (λ k. absurd (l.unfinished a n h.0 k)));
  more = ((λ e. h.0), (λ u. refl));
  bad = ((λ e. absurd cc), (λ g. absurd (g (unfinished-begins A R a h.0))));
}
exact A R l a Bad new h = record {
  done = λ n. ((λ e. absurd cc), (λ k. absurd (h.0 (spelled-begins A R a n k))));
  more = ((λ e. absurd cc), (λ u. absurd (h.0 (unfinished-begins A R a u))));
  bad = ((λ e. h.0), (λ g. refl));
}
