-- Which place a text has.
use Rattle.std.specs.Prelude.{◌≡◌, ℕ, false, ⊤, ◌+◌, ◌*◌, ◌%◌, ◌^◌, List, Option, Some, None, fold, if◌then◌else◌}
use Rattle.std.specs.Borrow.{Bor}
use Rattle.std.specs.Option.{option_map}
use Rattle.std.specs.BTreeMap.{get_by}
use Rattle.std.specs.Cmp.Lexicographic.{slice_cmp}
use Rattle.std.specs.Ordering.{nat_cmp}
use Rattle.std.specs.Str.{bytes_eq}
use Rattle.wc_spaces.specs.declared.places.Placed.{Placed}
use Rattle.wc_spaces.specs.declared.places.Places.{Places}

-- the number of a text with one more byte, from that of the text
abbrev pub number_with : ℕ → ℕ → ℕ
number_with number byte = (number * 11400714819323198485 % 2 ^ 64 + byte) % 2 ^ 64

-- the number of a text
unfoldable pub number_in : List ℕ → ℕ
number_in text = fold number_with 0 text

-- the place of a text, from what its number stands for, and from its place among the others
abbrev pub placed_in : List ℕ → Option Placed → Option ℕ → Option ℕ
placed_in q None other = other
placed_in q (Some first) other = if bytes_eq first.text.now q then Some first.place else other

-- the place of a text, where it has one
abbrev pub place_in : Places → List ℕ → Option ℕ
place_in places q =
    placed_in q (get_by (nat_cmp (number_in q)) places.firsts) (get_by (λ k. slice_cmp nat_cmp q k.now) places.others)

-- a number stands for no text, or for another one
abbrev pub IsApart : List ℕ → Option Placed → Type 0
IsApart text None = ⊤
IsApart text (Some first) = bytes_eq first.text.now text ≡ false

-- that of the text does
abbrev pub IsBeside : List ℕ → Places → Type 0
IsBeside text places = IsApart text (get_by (nat_cmp (number_in text)) places.firsts)

-- the text that a reference leads to
abbrev pub text_of : Option (Bor (List ℕ)) → Option (List ℕ)
text_of text = option_map (λ t. t.now) text
