-- Whether an input is its own canonical bytes.
use Rattle.std.specs.Prelude.{◌≢◌, ℕ, List, Bool, true, false}
use Rattle.wc_canon.specs.Standard.Input.{HasAnswer}

-- the input is accepted, and it is its canonical bytes
abbrev pub IsCanonical : List ℕ → Type 0
IsCanonical x = HasAnswer x x

-- the input is accepted, and its canonical bytes are others
abbrev pub IsNotCanonical : List ℕ → Type 0
IsNotCanonical x = (b : List ℕ) × HasAnswer x b × (b ≢ x)

-- what an answer says
abbrev pub TellsCanonical : List ℕ → Bool → Type 0
TellsCanonical x true = IsCanonical x
TellsCanonical x false = IsNotCanonical x
