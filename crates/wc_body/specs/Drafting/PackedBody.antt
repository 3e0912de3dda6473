-- What bodies keep: a row of bytes, by which entries stand.
use Rattle.std.specs.Prelude.{◌≡◌, ℕ, ◌-◌, Bool, true, false, List, [], ◌∷◌, ◌++◌, length, set}
use Rattle.wc_body.specs.declared.entry.Entry.{Entry}
use Rattle.wc_body.specs.declared.builder.Part.{Part}
use Rattle.wc_body.specs.declared.needs.Needs.{Needs}
use Rattle.wc_body.specs.Standard.Draft.{is_otherwise}
use Rattle.wc_body.specs.Standard.Entries.{mark, marks, nested}
use Rattle.wc_body.specs.Drafting.Kept.{IsWhole, IsBuilding}
use Rattle.wc_body.specs.Standard.Needed.{nothing, needs_of}
use Rattle.wc_body.specs.Drafting.NeededAlong.{needs_along}
use Rattle.wc_body.specs.Drafting.OpenParts.{part_in}
use Rattle.wc_body.specs.Reading.Unpacked.{unpacked, IsPacked}

-- the bytes are those of whole instructions, which need this
pub record IsBody (x : List ℕ) (needs : Needs) : Type 0 where
  pub packed : IsPacked x
  pub whole : IsWhole (marks (unpacked x))
  pub needed : needs ≡ needs_of (nested (unpacked x))

-- does the last of the entries begin an else part
abbrev pub ends_with_else : List Entry → Bool
ends_with_else [] = false
ends_with_else (e ∷ []) = is_otherwise (mark e)
ends_with_else (e ∷ f ∷ es) = ends_with_else (f ∷ es)

-- bytes with an end mark behind them, in the place of an else mark that stands last
abbrev pub with_end : Bool → List ℕ → List ℕ
with_end false x = x ++ 0x0B ∷ []
with_end true x = set x (length x - 1) 0x0B

-- the bytes are those of a body that is being built, the parts are those of what is open, it is known whether an else
-- mark stands last, and what is needed so far
pub record IsStarted (x : List ℕ) (parts : List Part) (after_else : Bool) (needs : Needs) : Type 0 where
  pub packed : IsPacked x
  pub building : IsBuilding part_in (marks (unpacked x)) parts
  pub last : after_else ≡ ends_with_else (unpacked x)
  pub needed : needs ≡ needs_along nothing 0 (marks (unpacked x))
