-- The inputs of a line: each is the device of an opened reader, or none where it can't be opened.
use Rattle.std.specs.Prelude.{◌≡◌, ◌&&◌, ◌==◌, ℕ, List, Bool, not, true, false, Option, None, Some, ⊤}
use Rattle.wc_device.specs.declared.io_device.Device.{Device}
use Rattle.wc_device.specs.Standard.Device.{device_inner, has_failed, has_ended, was_asked_again, read_count}

-- its bytes, where they are known: remaining says which bytes a reader has left
abbrev pub input_bytes : {R : Type 0} → (R → Option (List ℕ)) → Option (Device R) → Option (List ℕ)
input_bytes remaining None = None
input_bytes remaining (Some d) = remaining (device_inner d)

-- it wasn't opened, or a read of it failed
abbrev pub is_unread : {R : Type 0} → Option (Device R) → Bool
is_unread None = true
is_unread (Some d) = has_failed d

-- nothing was read of it, not even its end, and no call of it failed
abbrev pub IsNewInput : {R : Type 0} → Option (Device R) → Type 0
IsNewInput None = ⊤
IsNewInput (Some d) = (has_failed d ≡ false) × (has_ended d ≡ false) × (read_count d ≡ 0)

-- whether that is so
abbrev pub is_new_input : {R : Type 0} → Option (Device R) → Bool
is_new_input None = true
is_new_input (Some d) = not (has_failed d) && (not (has_ended d) && (read_count d == 0))

-- from old to new: an input that isn't there isn't there later, and one that is there stays, of which nothing is asked
-- once a read failed or was told the end
abbrev pub StaysThere : {R : Type 0} → Option (Device R) → Option (Device R) → Type 0
StaysThere None None = ⊤
StaysThere None (Some e) = ⊥
StaysThere (Some d) None = ⊥
StaysThere (Some d) (Some e) = was_asked_again e ≡ was_asked_again d
