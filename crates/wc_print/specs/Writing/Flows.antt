-- What went out to a writer, and what waits for its turn.
use Rattle.std.specs.Prelude.{◌≡◌, ℕ, ◌<◌, Bool, true, false, List, ◌++◌, length, take, Option}
use Rattle.std.specs.Io.KnownBytes.{Appends}
use Rattle.wc_device.specs.Standard.Device.{has_failed, was_asked_again, flush_count, is_unflushed, has_lost}
use Rattle.wc_device.specs.Standard.Device.{LosesBehind}
use Rattle.wc_device.specs.declared.io_device.Device.{Device}

-- so many bytes went out, and with those that wait they are all that were put
pub record Flows (old new : Option (List ℕ)) (sent : ℕ) (waiting said : List ℕ) : Type 0 where
  pub out : List ℕ
  pub appends : Appends old new out
  pub counted : sent ≡ length out
  pub all : said ≡ out ++ waiting

-- the same unless the writer failed: then those went out that are at the front, and fewer than all
abbrev pub FlowsUnless : Bool → Option (List ℕ) → Option (List ℕ) → ℕ → List ℕ → List ℕ → Type 0
FlowsUnless false old new sent waiting said = Flows old new sent waiting said
FlowsUnless true old new sent waiting said = (sent < length said) × Appends old new (take sent said)

-- from first to now a device was asked for writes alone, and for none behind a failure; it was asked for some where
-- bytes went out, and where it failed; and bytes were lost only where it failed, behind as many as can be counted
pub record OnlyWrites {W : Type 0} (first now : Device W) (sent : ℕ) : Type 0 where
  pub again : was_asked_again now ≡ was_asked_again first
  pub flushes : flush_count now ≡ flush_count first
  pub some : 0 < sent → is_unflushed now ≡ true
  pub failed : has_failed now ≡ true → is_unflushed now ≡ true
  pub kept : has_failed now ≡ false → has_lost now ≡ has_lost first
  pub lost : LosesBehind sent first now
