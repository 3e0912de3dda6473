-- What a row of bodies keeps: the bytes of all of them, and of each how many they are and what it needs of a
-- function; and what all need.
use Rattle.std.specs.Prelude.{◌≡◌, ◌≤◌, ℕ, List, [], ◌∷◌, length, take, drop}
use Rattle.wc_body.specs.declared.kept.place.Place.{Place}
use Rattle.wc_body.specs.declared.needs.Needs.{Needs}
use Rattle.wc_body.specs.declared.needs.OwnNeeds.{OwnNeeds}
use Rattle.wc_body.specs.Standard.Needed.{nothing, needs_of, own_of, with_bodies}
use Rattle.wc_body.specs.declared.instr.BlockType.{BlockType}
use Rattle.wc_body.specs.declared.instr.Instr.{Instr}
use Rattle.wc_body.specs.Standard.Nested.{Code}
use Rattle.wc_body.specs.Standard.Entries.{marks, nested}
use Rattle.wc_body.specs.Reading.Unpacked.{unpacked, IsPacked}
use Rattle.wc_body.specs.Drafting.Kept.{IsWhole}

-- the bodies that stand in the bytes, one after the other
abbrev pub bodies_at : List Place → List ℕ → List (Code Instr BlockType)
bodies_at [] x = []
bodies_at (p ∷ ps) x = nested (unpacked (take p.size x)) ∷ bodies_at ps (drop p.size x)

-- the bytes are those of whole instructions, which need this of a function
pub record IsBodyOf (x : List ℕ) (own : OwnNeeds) : Type 0 where
  pub packed : IsPacked x
  pub whole : IsWhole (marks (unpacked x))
  pub needed : own ≡ own_of (needs_of (nested (unpacked x)))

-- the bytes are those of bodies, one after the other, and of no more
abbrev pub AreBodies : List Place → List ℕ → Type 0
AreBodies [] x = x ≡ []
AreBodies (p ∷ ps) x = (p.size ≤ length x) × IsBodyOf (take p.size x) p.own × AreBodies ps (drop p.size x)

-- the bytes are those of bodies, and it is known what all of them need
pub record IsRow (ps : List Place) (x : List ℕ) (needs : Needs) : Type 0 where
  pub bodies : AreBodies ps x
  pub needed : needs ≡ with_bodies nothing (bodies_at ps x)
