-- What is put where a text goes: `Has first now said` tells that these bytes were put there since it was as `first`.
use Rattle.std.specs.Prelude.{◌≡◌, ℕ, ◌≤◌, List, ◌++◌, length}
use Rattle.std.specs.List.{flat_map}
use Rattle.wc_print.specs.Standard.Printed.{Item, printed, escaped}
use Rattle.wc_print.specs.Standard.Printable.{AreSpelled}

-- these bytes are put behind those before
pub record Says {F S : Type 0} (Has : F → S → List ℕ → Type 0) (bytes : List ℕ) (old new : S) : Type 0 where
  pub all : (first : F) (said : List ℕ) → Has first old said → Has first new (said ++ bytes)

-- these items are put behind what was before, and each is spelled
pub record Puts {F S : Type 0} (Has : F → S → List ℕ → Type 0) (items : List Item) (old new : S) : Type 0 where
  pub spelled : AreSpelled items
  pub bytes : Says Has (printed items) old new

-- what was put, with bytes behind it that were not put yet, as those that are written on a page
pub record Behind {F S : Type 0} (Has : F → S → List ℕ → Type 0) (first : F) (now : S
    × List ℕ) (said : List ℕ) : Type 0 where
  pub front : List ℕ
  pub has : Has first now.0 front
  pub is : said ≡ front ++ now.1

-- where those that are left are put behind this, all are put behind the old
pub record Leaves {F S : Type 0} (Has : F → S → List ℕ → Type 0) (left all : List Item) (out old : S) : Type 0 where
  pub finish : (new : S) → Puts Has left out new → Puts Has all old new

-- where those bytes of a string that are left are put behind this, all are put behind the old
pub record LeavesEscaped {F S : Type 0} (Has : F → S → List ℕ → Type 0) (left all : List ℕ) (out old : S) : Type 0 where
  pub finish : (new : S) → Says Has (flat_map escaped left) out new → Says Has (flat_map escaped all) old new
  pub fewer : length left ≤ length all
