-- What went out to a writer: `old` and `new` are the bytes that it holds, where they are known.
use Rattle.std.specs.Prelude.{◌≡◌, ℕ, ◌≤◌, List, length, take, Option, Result, Ok, Err}
use Rattle.std.specs.Io.KnownBytes.{Appends}

-- all the bytes went out, and so many they are; or exactly so many at the front did
abbrev pub Sends : Option (List ℕ) → Option (List ℕ) → List ℕ → Result ℕ ℕ → Type 0
Sends old new bytes (Ok n) = (n ≡ length bytes) × Appends old new bytes
Sends old new bytes (Err n) = (n ≤ length bytes) × Appends old new (take n bytes)
