-- UTF-8 read byte by byte.
use Rattle.std.specs.Prelude.{◌≡◌, ℕ, nat_le, nat_lt, Bool, ◌&&◌, ◌||◌, List, Option, Some, None, if◌then◌else◌}
use Rattle.simdutf8.specs.Steps.{Steps, least_after, most_after}
use Rattle.simdutf8.specs.Tracks.{last_three}
use Rattle.wc_symbols.specs.declared.utf8.Tail.{Tail}

-- a byte behind the first one of a character in UTF-8 (Core 1.0, 5.2.4)
abbrev pub is_continuation : ℕ → Bool
is_continuation b = nat_le 0x80 b && nat_lt b 0xc0

-- the byte b may follow x, y and z in UTF-8
abbrev pub may_follow : ℕ → ℕ → ℕ → ℕ → Bool
may_follow x y z b =
    if nat_le 0xf0 x || nat_le 0xe0 y then is_continuation z && is_continuation b
    else (if nat_lt z 0xc0 then nat_lt b 0x80 || nat_le 0xc0 b
    else nat_le 0xc2 z && nat_le z 0xf4 && nat_le (least_after z) b && nat_le b (most_after z))

-- after x, y and z no character is left open
abbrev pub is_closed : ℕ → ℕ → ℕ → Bool
is_closed x y z = nat_lt x 0xf0 && nat_lt y 0xe0 && nat_lt z 0xc0

-- What is known of the bytes read so far: each may follow those before it, and these are the last three. Or one of
-- them may not.
abbrev pub Tracks : Option Tail → List ℕ → Type 0
Tracks None read = ¬ (Steps 0 0 0 read)
Tracks (Some t) read = Steps 0 0 0 read × (last_three 0 0 0 read ≡ (t.first, t.second, t.third))
