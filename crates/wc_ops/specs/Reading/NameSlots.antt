-- Names are found by their slots, numbers below 512.
use Rattle.std.specs.Prelude.{ℕ, ◌+◌, ◌-◌, ◌*◌, ◌/◌, ◌%◌, ◌^◌, nat_lt, List, length, get_or}
use Rattle.std.specs.Prelude.{if◌then◌else◌}

-- the number of the four bytes from a place on, the first one the least
abbrev pub four_from : List ℕ → ℕ → ℕ
four_from w i =
    get_or w i 0 + get_or w (i + 1) 0 * 256 + get_or w (i + 2) 0 * 65536 + get_or w (i + 3) 0 * 16777216

-- the slot of a word of four bytes or more: the first nine bits of a product of 32 bits, by its length and its ends
abbrev pub slot_of_ends : List ℕ → ℕ → ℕ
slot_of_ends w n =
    ((((four_from w 0 + four_from w (n - 4)) % 2 ^ 32 + n % 65536) % 2 ^ 32 * 1612751597) % 2 ^ 32) / 8388608

-- the slot of a word: of a short one its second byte
abbrev pub slot : List ℕ → ℕ
slot w = if nat_lt (length w) 2 then 0 else if nat_lt (length w) 4 then get_or w 1 0 else slot_of_ends w (length w)
