-- What the builder of instructions keeps.
use Rattle.std.specs.Prelude.{◌≡◌, ◌-◌, Bool, true, false, List, [], ◌∷◌, ◌++◌, length, set}
use Rattle.wc_body.specs.declared.entry.Kind.{Kind}
use Rattle.wc_body.specs.declared.entry.Kind.TheVariants.{Block, Loop, If}
use Rattle.wc_body.specs.Standard.Draft.{Frame, in_region, in_then, in_else, is_otherwise}
use Rattle.wc_body.specs.Drafting.Kept.{IsBuilding}
use Rattle.wc_surface.specs.declared.code_builder.Part.{Part}
use Rattle.wc_surface.specs.declared.code_builder.Part.TheVariants.{Other, Then}
use Rattle.wc_surface.specs.declared.code.TextEntry.{TextEntry}
use Rattle.wc_surface.specs.declared.code.TextEntry.TheVariants.{End}
use Rattle.wc_surface.specs.Standard.Marks.{mark, marks}

-- the part in which one of this kind begins
abbrev pub part_of : Kind → Part
part_of Block = Other
part_of Loop = Other
part_of If = Then

-- the part in which an open one is
abbrev pub part_in : {P H : Type 0} → Frame P H → Part
part_in (in_region before r h) = Other
part_in (in_then before h) = Then
part_in (in_else before h first) = Other

-- does the last of the entries begin an else part
abbrev pub ends_with_else : List TextEntry → Bool
ends_with_else [] = false
ends_with_else (e ∷ []) = is_otherwise (mark e)
ends_with_else (e ∷ f ∷ es) = ends_with_else (f ∷ es)

-- entries with an end behind them, in the place of an else that stands last
abbrev pub with_end : Bool → List TextEntry → List TextEntry
with_end false es = es ++ End ∷ []
with_end true es = set es (length es - 1) End

-- the entries may come one after the other, the parts are those of what is open, and it is known whether an else stands
-- last
pub record IsStarted (es : List TextEntry) (parts : List Part) (after_else : Bool) : Type 0 where
  pub building : IsBuilding part_in (marks es) parts
  pub last : after_else ≡ ends_with_else es
