-- From two answers or refusals to what a comparison tells.
use Rattle.std.proofs.Common.{◌≡◌, ◌≢◌, ◌∙◌, ℕ, List, ◌⊎◌, inl, inr, refl, sym, subst}
use Rattle.std.proofs.Common.{Result, Ok, Err, Option, Some, None, IfOk, IfErr, IfSome, MatchResult}
use Rattle.wc_ast.specs.declared.module.Module.{Module}
use Rattle.wc_canon.specs.declared.fault.Refusal.{Refusal}
use Rattle.wc_canon.specs.declared.fault.Refusal.TheVariants.{Memory}
use Rattle.wc_canon.specs.declared.comparing.Comparison.{Comparison}
use Rattle.wc_canon.specs.declared.comparing.Comparison.TheVariants.{Same, Different}
use Rattle.wc_canon.specs.declared.comparing.Side.{Side}
use Rattle.wc_canon.specs.declared.comparing.Side.TheVariants.{A, B}
use Rattle.wc_canon.specs.Standard.Input.{Means, HasAnswer, HasFault, IsAccepted, IsRefused}
use Rattle.wc_canon.specs.Standard.Run.{IsAnswerOf}
use Rattle.wc_canon.specs.Answering.Sides.{ComparesBytes}
use Rattle.wc_canon.specs.Standard.Comparing.{IsSame, IsDifferent, Compares, IsSideRefused}
use Rattle.wc_canon.proofs.Laws.{same-bytes-same-module, one-meaning, meant-or-fault}
use Rattle.wc_canon.proofs.Judged.{never-meant, that-fault}

pub same-answers : (x y b c : List ℕ) → HasAnswer x b → HasAnswer y c → b ≡ c → IsSame x y
unfolding HasAnswer
same-answers x y b c a d e =
    let h : a.0 ≡ d.0 = (same-bytes-same-module x y b c a.0 d.0 a.1 d.1 a d).0 e in
    (d.0, subst (Means x) h a.1, d.1)

pub other-answers : (x y b c : List ℕ) → HasAnswer x b → HasAnswer y c → b ≢ c → IsDifferent x y
unfolding HasAnswer
other-answers x y b c a d e = (a.0, d.0, a.1, d.1, λ h. e ((same-bytes-same-module x y b c a.0 d.0 a.1 d.1 a d).1 h))

-- what is told of their canonical bytes
pub compared : (x y b c us vs : List ℕ) (k : Comparison) → HasAnswer x b → HasAnswer y c → us ≡ b → vs ≡ c
    → ComparesBytes us vs k → Compares x y k
compared x y b c us vs Same a d e f h = same-answers x y b c a d (sym e ∙ (h ∙ f))
compared x y b c us vs Different a d e f h = other-answers x y b c a d (λ i. h (e ∙ (i ∙ sym f)))

pub answer-accepted : (x b : List ℕ) → HasAnswer x b → IsAccepted x
unfolding HasAnswer
answer-accepted x b a = (a.0, a.1)

-- ---- of two readers

-- from the canonical bytes of both, where they are known
pub compared-sides : (x y : Option (List ℕ)) (b c us vs : List ℕ) (k : Comparison) → IsAnswerOf x b → IsAnswerOf y c
    → us ≡ b → vs ≡ c → ComparesBytes us vs k → IfSome x (λ u. IfSome y (λ v. Compares u v k))
compared-sides None y b c us vs k a d e f h = tt
compared-sides (Some x) None b c us vs k a d e f h = tt
compared-sides (Some x) (Some y) b c us vs k a d e f h = compared x y b c us vs k a d e f h

pub side-accepted : (x : Option (List ℕ)) (b : List ℕ) → IsAnswerOf x b → IfSome x IsAccepted
side-accepted None b a = tt
side-accepted (Some x) b a = answer-accepted x b a

-- ---- of two inputs

-- a side's refusal: the first input's, or that of the second one behind an answer to the first
pub refused-first : (x y : List ℕ) (e : Side × Refusal) → e.0 ≡ A → IsRefused x e.1 → IsSideRefused x y e.0 e.1
refused-first x y e h p = let P : Side → Type 0 = λ s. IsSideRefused x y s e.1 in subst P (sym h) p

pub refused-second : (x y b : List ℕ) (e : Side × Refusal) → HasAnswer x b → e.0 ≡ B → IsRefused y e.1
    → IsSideRefused x y e.0 e.1
refused-second x y b e a h p =
    let P : Side → Type 0 = λ s. IsSideRefused x y s e.1 in subst P (sym h) (answer-accepted x b a, p)

module _ (x y : List ℕ) where
  -- a comparison that meets its clauses
  abbrev Told : Result Comparison (Side × Refusal) → Type 0
  Told r = IfOk r (Compares x y) × IfErr r (λ e. IsSideRefused x y e.0 e.1)

  never-different : (m : Module) → Means x m → Means y m → IsDifferent x y → ⊥
  never-different m p q d = d.4 (one-meaning x d.0 m d.2 p ∙ one-meaning y m d.1 q d.3)

  never-same : (m n : Module) → Means x m → Means y n → m ≢ n → IsSame x y → ⊥
  never-same m n p q d s = d (one-meaning x m s.0 p s.1 ∙ one-meaning y s.0 n s.2 q)

  never-refused : (m n : Module) → Means x m → Means y n → (s : Side) (f : Refusal) → IsSideRefused x y s f → f ≡ Memory
  never-refused m n p q A f h = never-meant x m f h p
  never-refused m n p q B f h = never-meant y n f h.1 q

  pub told-same : (r : Result Comparison (Side × Refusal)) → Told r → (m : Module) → Means x m → Means y m
      → MatchResult r (λ c. c ≡ Same) (λ e. e.1 ≡ Memory)
  told-same (Ok Same) t m p q = refl
  told-same (Ok Different) t m p q = absurd (never-different m p q t.0)
  told-same (Err e) t m p q = never-refused m m p q e.0 e.1 t.1

  pub told-different : (r : Result Comparison (Side × Refusal)) → Told r → (m n : Module) → Means x m → Means y n
      → m ≢ n → MatchResult r (λ c. c ≡ Different) (λ e. e.1 ≡ Memory)
  told-different (Ok Same) t m n p q d = absurd (never-same m n p q d t.0)
  told-different (Ok Different) t m n p q d = refl
  told-different (Err e) t m n p q d = never-refused m n p q e.0 e.1 t.1

  side-a : (s : Side) (f g : Refusal) → IsSideRefused x y s f → HasFault x g → (s ≡ A) × ((f ≡ Memory) ⊎ (f ≡ g))
  side-a A f g h p = (refl, that-fault x f g h p)
  side-a B f g h p = absurd (meant-or-fault x h.0.0 g h.0.1 p)

  pub told-a : (r : Result Comparison (Side × Refusal)) → Told r → (f : Refusal) → HasFault x f
      → MatchResult r (λ c. ⊥) (λ e. (e.0 ≡ A) × ((e.1 ≡ Memory) ⊎ (e.1 ≡ f)))
  told-a (Ok Same) t f p = meant-or-fault x t.0.0 f t.0.1 p
  told-a (Ok Different) t f p = meant-or-fault x t.0.0 f t.0.2 p
  told-a (Err e) t f p = side-a e.0 e.1 f t.1 p

  fault-b : (f g : Refusal) → (f ≡ Memory) ⊎ (f ≡ g) → (f ≡ Memory) ⊎ ((B ≡ B) × (f ≡ g))
  fault-b f g (inl e) = inl e
  fault-b f g (inr e) = inr (refl, e)

  side-b : (s : Side) (m : Module) (f g : Refusal) → IsSideRefused x y s f → Means x m → HasFault y g
      → (f ≡ Memory) ⊎ ((s ≡ B) × (f ≡ g))
  side-b A m f g h p q = inl (never-meant x m f h p)
  side-b B m f g h p q = fault-b f g (that-fault y f g h.1 q)

  pub told-b : (r : Result Comparison (Side × Refusal)) → Told r → (m : Module) (f : Refusal) → Means x m → HasFault y f
      → MatchResult r (λ c. ⊥) (λ e. (e.1 ≡ Memory) ⊎ ((e.0 ≡ B) × (e.1 ≡ f)))
  told-b (Ok Same) t m f p q = meant-or-fault y t.0.0 f t.0.2 q
  told-b (Ok Different) t m f p q = meant-or-fault y t.0.1 f t.0.3 q
  told-b (Err e) t m f p q = side-b e.0 m e.1 f t.1 p q
