-- What is kept of an index space.
use Rattle.std.specs.Prelude.{◌≡◌, ℕ, List, length, Option}
use Rattle.wc_spaces.specs.declared.space.Space.{Space}
use Rattle.wc_spaces.specs.Kept.Directory.{found_in, AreApart}
use Rattle.wc_spaces.specs.Standard.Spaces.{place_of}

-- how many are declared
abbrev pub size_of : Space → ℕ
size_of space = space.count

-- these are declared
pub record IsSpace (ds : List (Option (List ℕ))) (space : Space) : Type 0 where
  pub placed : (q : List ℕ) → found_in space.places q ≡ place_of q ds
  pub counted : size_of space ≡ length ds
  pub apart : AreApart space.places
