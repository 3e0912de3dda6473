-- Which place an identifier has, where it is known how many are to come.
use Rattle.std.specs.Prelude.{◌≡◌, ℕ, Bool, true, false, ◌*◌, ◌/◌, ◌%◌, ◌^◌, List, length, slice_get}
use Rattle.std.specs.Prelude.{Option, Some, None, is_none}
use Rattle.wc_spaces.specs.declared.directory.Directory.{Directory}
use Rattle.wc_spaces.specs.declared.places.Placed.{Placed}
use Rattle.wc_spaces.specs.Kept.Places.{number_in, placed_in, place_in}

-- the slot of a number among so many
unfoldable pub slot_in : ℕ → ℕ → ℕ
slot_in number count = number * 11400714819323198485 % 2 ^ 64 / 2 ^ 32 * count % 2 ^ 64 / 2 ^ 32

-- the text whose index a slot holds, where there is that slot
abbrev pub first_at : List Placed → Option ℕ → Option Placed
first_at firsts None = None
first_at firsts (Some index) = slice_get firsts index

-- the same, where a slot that no text has is told from no slot
abbrev pub seen_at : List Placed → Option ℕ → Option (Option Placed)
seen_at firsts None = None
seen_at firsts (Some index) = Some (slice_get firsts index)

-- what the slot of a text holds
abbrev pub held_in : Directory → List ℕ → Option ℕ
held_in directory q = slice_get directory.slots.items (slot_in (number_in q) (length directory.slots.items))

-- the place of a text, where it has one
abbrev pub found_in : Directory → List ℕ → Option ℕ
found_in directory q =
    placed_in q (first_at directory.firsts.items (held_in directory q)) (place_in directory.others q)

-- there is this slot, and no text has it
abbrev pub is_free : List Placed → Option ℕ → Bool
is_free firsts None = false
is_free firsts (Some index) = is_none (slice_get firsts index)

-- no text stands among the others whose slot is free
pub record AreApart (directory : Directory) : Type 0 where
  pub apart : (q : List ℕ) → is_free directory.firsts.items (held_in directory q) ≡ true
      → place_in directory.others q ≡ None
