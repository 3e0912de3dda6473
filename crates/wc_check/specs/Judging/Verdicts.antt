-- What is answered where rules are broken.
use Rattle.std.specs.Prelude.{List, [], ◌∷◌, Option, Some, None, Result, Ok, Err}
use Rattle.wc_check.specs.declared.fault.Item.{Item}
use Rattle.wc_check.specs.declared.fault.CheckWhy.{CheckWhy}
use Rattle.wc_check.specs.declared.fault.CheckFault.{CheckFault}
use Rattle.wc_check.specs.declared.fault.CheckFault.TheVariants.{Broken}

-- the answer where an item breaks this rule, or none
abbrev pub judged : Item → Option CheckWhy → Result (Unit {0}) CheckFault
judged item None = Ok tt
judged item (Some why) = Err (Broken item why)

-- the answer where these are broken: the first one
abbrev pub verdict : List (Item × CheckWhy) → Result (Unit {0}) CheckFault
verdict [] = Ok tt
verdict (x ∷ xs) = Err (Broken x.0 x.1)
