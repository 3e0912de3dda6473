-- Lists of broken rules, and the first of them.
use Rattle.std.specs.Prelude.{ℕ, ◌≡◌, ◌+◌, Bool, true, false, List, [], ◌∷◌, ◌++◌, map, Option, Some, None}
use Rattle.wc_check.specs.declared.fault.Item.{Item}
use Rattle.wc_check.specs.declared.fault.CheckWhy.{CheckWhy}
use Rattle.wc_check.specs.declared.fault.CheckFault.{CheckFault}
use Rattle.wc_check.specs.declared.fault.CheckFault.TheVariants.{Broken, Memory}

-- the rule, where it is broken
abbrev pub rule : CheckWhy → Bool → List CheckWhy
rule why false = []
rule why true = why ∷ []

-- each of these rules, broken by the item
abbrev pub at : Item → List CheckWhy → List (Item × CheckWhy)
at item whys = map (λ why. (item, why)) whys

-- what each member of a list breaks, in order; the first one has this number
abbrev pub each : {X : Type 0} → (ℕ → X → List (Item × CheckWhy)) → ℕ → List X → List (Item × CheckWhy)
each broken_by n [] = []
each broken_by n (x ∷ xs) = broken_by n x ++ each broken_by (n + 1) xs

-- the first one, where there is one
abbrev pub first : {X : Type 0} → List X → Option X
first [] = None
first (x ∷ xs) = Some x

-- what the fault says where these are broken: it is the first one; want of memory says nothing
abbrev pub IsFirstOf : List (Item × CheckWhy) → CheckFault → Type 0
IsFirstOf all (Broken item why) = first all ≡ Some (item, why)
IsFirstOf all Memory = Unit {0}
