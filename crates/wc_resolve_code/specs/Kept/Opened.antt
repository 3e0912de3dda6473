-- Which parts are open in instructions that are being built.
use Rattle.std.specs.Prelude.{Bool, true, false, List, [], ◌∷◌}
use Rattle.wc_body.specs.declared.entry.Kind.{Kind}
use Rattle.wc_body.specs.declared.entry.Kind.TheVariants.{Block, Loop, If}
use Rattle.wc_body.specs.Standard.Draft.{Frame, in_region, in_then, in_else}

-- is it an if in its first part
abbrev pub is_first : {P H : Type 0} → Frame P H → Bool
is_first (in_region before r h) = false
is_first (in_then before h) = true
is_first (in_else before h first) = false

-- the same of each that is open, the innermost first
abbrev pub firsts : {P H : Type 0} → List (Frame P H) → List Bool
firsts [] = []
firsts (frame ∷ around) = is_first frame ∷ firsts around

-- does one of this kind begin with the first part of an if
abbrev pub begins_if : Kind → Bool
begins_if Block = false
begins_if Loop = false
begins_if If = true
