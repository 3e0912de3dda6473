-- Imports and exports of functions, by their names and an index, and the heads of functions.
use Rattle.std.specs.Prelude.{◌≡◌, ℕ, ◌<◌, ◌≤◌, true, List, [], ◌∷◌, ◌++◌, codes, length, slice_index}
use Rattle.wc_ast.specs.declared.import.Desc.TheVariants.{Func}
use Rattle.wc_print.specs.Standard.Printed.{stands, opening, closing, word, number, quoted, Item, next, after, below}
use Rattle.wc_print.specs.Standard.Lines.{type_use_items}
use Rattle.wc_print.specs.Standard.Layout.{desc_items}

-- each of the bytes stands for itself in a string
abbrev pub AllStand : List ℕ → Type 0
AllStand bytes = (k : ℕ) → k < length bytes → stands (slice_index bytes k) ≡ true

-- a name of few bytes, each of which stands for itself
abbrev pub IsShort : List ℕ → Type 0
IsShort name = (length name ≤ 40) × AllStand name

-- `  (import "m" "n" (func (type 0)))` (6.6.4)
abbrev pub function_import : List ℕ → List ℕ → ℕ → List Item
function_import m n index =
    below 2 opening ∷ next (word (codes "import")) ∷ after (quoted m) ∷ after (quoted n)
    ∷ (desc_items (Func index) ++ (next closing ∷ []))

-- `  (export "n" (func 0))` (6.6.9)
abbrev pub function_export : List ℕ → ℕ → List Item
function_export n index =
    below 2 opening ∷ next (word (codes "export")) ∷ after (quoted n)
    ∷ after opening ∷ next (word (codes "func")) ∷ after (number index) ∷ next closing ∷ next closing ∷ []

-- `  (func (type 0)` (6.6.5)
abbrev pub function_head : ℕ → List Item
function_head index = below 2 opening ∷ next (word (codes "func")) ∷ type_use_items index
