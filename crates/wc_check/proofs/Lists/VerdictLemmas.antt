-- A check that goes through a list, and stops at the first broken rule.
use Rattle.std.proofs.Common.{◌≡◌, ℕ, ◌+◌, ◌<◌, suc, List, [], ◌∷◌, ◌++◌, length, get_or, drop, Option, Result}
use Rattle.std.proofs.Common.{Ok, Err, refl, sym, ap, ◌∙◌}
use Rattle.std.proofs.Math.Seq.{drop-cons}
use Rattle.wc_check.specs.declared.fault.Item.{Item}
use Rattle.wc_check.specs.declared.fault.CheckWhy.{CheckWhy}
use Rattle.wc_check.specs.declared.fault.CheckFault.{CheckFault}
use Rattle.wc_check.specs.Standard.Rules.{at, each, first}
use Rattle.wc_check.specs.Judging.Verdicts.{judged, verdict}

pub verdict-at : (item : Item) (whys : List CheckWhy) → verdict (at item whys) ≡ judged item (first whys)
verdict-at item [] = refl
verdict-at item (w ∷ ws) = refl

pub verdict-fails : (xs ys : List (Item × CheckWhy)) (fault : CheckFault) → verdict xs ≡ Err fault
    → verdict (xs ++ ys) ≡ Err fault
verdict-fails [] ys fault e = absurd cc
verdict-fails (x ∷ xs) ys fault e = e

-- what breaks no rule is not answered
pub verdict-passes : (xs ys : List (Item × CheckWhy)) {u : Unit {0}} → Ok u ≡ verdict xs
    → verdict (xs ++ ys) ≡ verdict ys
verdict-passes [] ys e = refl
verdict-passes (x ∷ xs) ys e = absurd cc

-- the rule that was found is the first one
pub judged-fails : (item : Item) (whys : List CheckWhy) (why : Option CheckWhy) (fault : CheckFault)
    → Err fault ≡ judged item why → why ≡ first whys → verdict (at item whys) ≡ Err fault
judged-fails item whys why fault e found = verdict-at item whys ∙ sym (e ∙ ap (λ o. judged item o) found)

-- no rule is broken where none is found first
pub judged-passes : (item : Item) (whys : List CheckWhy) (why : Option CheckWhy) (answer : Result (Unit {0}) CheckFault)
    → answer ≡ judged item why → why ≡ first whys → answer ≡ Ok tt → at item whys ≡ []
judged-passes item [] why answer e found ok = refl
judged-passes item (w ∷ ws) why answer e found ok = absurd cc

module _ {X : Type 0} (broken_by : ℕ → X → List (Item × CheckWhy)) (n i : ℕ) (xs : List X) where
  next-each : (x d : X) → i < length xs → x ≡ get_or xs i d
      → each broken_by n (drop i xs) ≡ broken_by n x ++ each broken_by (n + 1) (drop (suc i) xs)
  next-each x d lt is = ap (λ ys. each broken_by n ys) (drop-cons xs i d lt ∙ ap (λ z. z ∷ drop (suc i) xs) (sym is))

  -- the next member breaks a rule: that is the answer
  pub each-fails : (x d : X) (answer : Result (Unit {0}) CheckFault) (fault : CheckFault) → i < length xs
      → x ≡ get_or xs i d
      → verdict (each broken_by n (drop i xs)) ≡ answer → verdict (broken_by n x) ≡ Err fault → Err fault ≡ answer
  each-fails x d answer fault lt is rest e =
      sym (verdict-fails (broken_by n x) (each broken_by (n + 1) (drop (suc i) xs)) fault e)
      ∙ sym (ap (λ ys. verdict ys) (next-each x d lt is)) ∙ rest
