-- What a builder of flat bodies keeps, whatever its entries and its stack are made of.
use Rattle.std.specs.Prelude.{◌≡◌, ◌≤◌, List, [], ◌∷◌, ◌++◌, length}
use Rattle.wc_body.specs.Standard.Nested.{Mark, empty, flatten, nesting, nesting_limit}
use Rattle.wc_body.specs.Standard.Draft.{Frame, whole, built, reach}
use Rattle.wc_body.specs.Drafting.Staying.{AllMayStay}

-- what a stack holds of each that is open, outermost first
abbrev pub outermost : {P H X : Type 0} → (Frame P H → X) → List (Frame P H) → List X
outermost part [] = []
outermost part (frame ∷ around) = outermost part around ++ part frame ∷ []

-- the marks so far may come and stay, the stack is that of what is open, and the nesting limit is kept
pub record IsBuilding {P H X : Type 0} (part : Frame P H → X) (ms : List (Mark P H)) (stack : List X) : Type 0 where
  pub each : AllMayStay (whole empty) ms
  pub stacked : stack ≡ outermost part (built ms).around
  pub within : reach (built ms).around (nesting (built ms).last) ≤ nesting_limit
  pub depth : length (built ms).around ≤ nesting_limit

-- the marks are those of instructions, within the nesting limit
pub record IsWhole {P H : Type 0} (ms : List (Mark P H)) : Type 0 where
  pub whole : flatten (built ms).last ≡ ms
  pub within : nesting (built ms).last ≤ nesting_limit
