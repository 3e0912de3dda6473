-- The other bytes of an integer whose first byte was taken.
use Rattle.std.specs.Prelude.{IsTrue}
use Rattle.std.specs.List.{AllByRecursion}
use Rattle.std.proofs.Common.{◌≡◌, ℕ, ◌+◌, ◌≤◌, List, [], ◌∷◌, ◌++◌, length, take, drop, Some, Ok, sym, subst, ap, ◌∙◌}
use Rattle.std.proofs.Common.{arith}
use Rattle.std.proofs.lemmas.List.{length-append, take-take, take-append-drop, take_at}
use Rattle.wc_leb128.specs.Standard.Integers.{U, IsAtFront}
use Rattle.wc_binary.specs.Standard.Values.{IsByte}
use Rattle.wc_binary.specs.Reading.Reading.{got, unsigned_at}
use Rattle.wc_binary.specs.Reading.Source.{Input, AreAhead, Passes, Takes, TakesRest, Gave}
use Rattle.wc_binary.proofs.phrases.Unsigned.{unsigned-spelled}

-- ---- what lies ahead

first-all : {A : Type 0} (P : A → Type 0) (a b : List A) → AllByRecursion P (a ++ b) → AllByRecursion P a
first-all P [] b h = tt
first-all P (x ∷ a) b h = (h.0, first-all P a b h.1)

module _ (old new : Input) (bytes a y : List ℕ) (count n : ℕ) (ahead : AreAhead old count bytes) (e : bytes ≡ a ++ y)
    (all : n + length y ≡ count) (passes : Passes n old new n)
  where
    long : length a ≡ n
    long = omega (arith, ap length e, length-append a y, all, ahead.0)

    next : IsTrue old.known → old.left ≡ a ++ new.left
    next k =
        let few : n ≤ count = omega (arith, all) in
        let same : take n old.left ≡ a =
        sym (take-take n count old.left few) ∙ ap (take n) (sym (ahead.1 k)) ∙ ap (take n) e
        ∙ take_at a y n long in
        sym (take-append-drop n old.left) ∙ ap (λ (z : List ℕ). z ++ drop n old.left) same
        ∙ ap (λ (z : List ℕ). a ++ z) (sym (passes.3 k).2)

    takes : Takes old new a
    takes = (
      passes.0,
      omega (arith, passes.2, long),
      λ k. ((passes.3 k).0, next k),
      first-all IsByte a y (subst (AllByRecursion IsByte) e ahead.2),
    )

-- the bytes behind the first one were passed
pub rest-taken : (N first : ℕ) (old new : Input) (bytes y : List ℕ) (v count n : ℕ) → AreAhead old count bytes
    → IsAtFront (U N) (first ∷ bytes) v y → n + length y ≡ count → Passes n old new n
    → TakesRest (U N) first old new (Some v)
rest-taken N first old new bytes y v count n ahead ([], e, s) all passes = absurd s
rest-taken N first old new bytes y v count n ahead (b ∷ a, e, s) all passes =
    let head : b ≡ first = cc in
    let tail : bytes ≡ a ++ y = cc in
    (a, subst (λ (x : ℕ). U N (x ∷ a) v) head s, takes old new bytes a y count n ahead tail all passes)

-- what is left is no more than what lay ahead
pub rest-within : (N first : ℕ) (bytes y : List ℕ) (v : ℕ) → IsAtFront (U N) (first ∷ bytes) v y
    → length y ≤ length bytes
rest-within N first bytes y v ([], e, s) = absurd s
rest-within N first bytes y v (b ∷ a, e, s) =
    let tail : bytes ≡ a ++ y = cc in
    omega (arith, ap length tail, length-append a y)

-- so reading gives the integer
pub rest-gives : (N start first v : ℕ) (old new : Input) → old.place ≡ start + 1
    → TakesRest (U N) first old new (Some v)
    → Gave old new (Ok v) (λ x. unsigned_at N start (first ∷ x))
rest-gives N start first v old new e (a, s, t) = (
  t.0,
  λ k.
      let place : start + length (first ∷ a) ≡ new.place = omega (arith, e, t.1) in (
        (t.2 k).0,
        ap (λ (z : List ℕ). unsigned_at N start (first ∷ z)) (t.2 k).1
            ∙ unsigned-spelled N start (first ∷ a) new.left v s ∙ ap (λ (q : ℕ). got v q new.left) place,
      ),
)
