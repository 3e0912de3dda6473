-- What a clause reads of a `Device`.
use Rattle.std.specs.Prelude.{◌≡◌, ◌⊎◌, ℕ, ◌+◌, ◌-◌, ◌^◌, ◌%◌, ◌<◌, min, Bool, true, false}
use Rattle.std.specs.Prelude.{Option, Some, None, is_some}
use Rattle.wc_device.specs.declared.io_device.Device.{Device}
use Rattle.wc_device.specs.declared.io_device.TheConstants.{BUFFER_SIZE}

-- how many bytes may be read beyond those that are needed
abbrev pub buffer_size : ℕ
buffer_size = BUFFER_SIZE

-- the reader or writer in it
abbrev pub device_inner : {T : Type 0} → Device T → T
device_inner d = d.inner

-- how many bytes were read before its first failure, where a call of it failed
abbrev pub failed_at : {T : Type 0} → Device T → Option ℕ
failed_at d = d.failed_at

-- whether a call of it failed
abbrev pub has_failed : {T : Type 0} → Device T → Bool
has_failed d = is_some d.failed_at

-- how many bytes were read
abbrev pub read_count : {T : Type 0} → Device T → ℕ
read_count d = d.count

-- how many of so many more bytes can be counted behind so many
abbrev pub countable : ℕ → ℕ → ℕ
countable more count = min more (2 ^ 64 - 1 - count)

-- the place of the first failure, where a call fails after so many bytes: an earlier one is kept
abbrev pub first_failure : Option ℕ → ℕ → Option ℕ
first_failure (Some at) count = Some at
first_failure None count = Some count

-- whether a read was told the end of the bytes
abbrev pub has_ended : {T : Type 0} → Device T → Bool
has_ended d = d.ended

-- whether a read, a write or a flush was asked for after a failure, or a read after the end
abbrev pub was_asked_again : {T : Type 0} → Device T → Bool
was_asked_again d = d.asked_again

-- how often a flush was asked for, modulo 2^64
abbrev pub flush_count : {T : Type 0} → Device T → ℕ
flush_count d = d.flush_count

-- a count with one flush more
abbrev pub one_more : ℕ → ℕ
one_more count = (count + 1) % 2 ^ 64

-- whether a write was asked for, and no flush behind it
abbrev pub is_unflushed : {T : Type 0} → Device T → Bool
is_unflushed d = d.unflushed

-- whether bytes were lost since no more can be counted: the one failure of a writer that no call of it told
abbrev pub has_lost : {T : Type 0} → Device T → Bool
has_lost d = d.lost

-- one flush was asked for from old to new, and no write behind it; no bytes were lost
abbrev pub FlushedOnce : {T : Type 0} → Device T → Device T → Type 0
FlushedOnce old new =
    (flush_count new ≡ one_more (flush_count old)) × (is_unflushed new ≡ false) × (has_lost new ≡ has_lost old)

-- writes were asked for from old to new, and no flush
abbrev pub Unflushed : {T : Type 0} → Device T → Device T → Type 0
Unflushed old new = (flush_count new ≡ flush_count old) × (is_unflushed new ≡ true)

-- bytes were lost from old to new only behind as many as can be counted
abbrev pub LosesBehind : {T : Type 0} → ℕ → Device T → Device T → Type 0
LosesBehind sent old new = (has_lost new ≡ has_lost old) ⊎ (sent ≡ 2 ^ 64 - 1)

-- from old to new so many of all bytes went out, and then one flush behind all of them, or none behind fewer
abbrev pub FlushedBehindAll : {T : Type 0} → ℕ → ℕ → Device T → Device T → Type 0
FlushedBehindAll sent all old new =
    (sent ≡ all → FlushedOnce old new) × (sent < all → Unflushed old new × LosesBehind sent old new)
