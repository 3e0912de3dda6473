-- A list of kinds read from left to right, by the table.
use Rattle.std.specs.Prelude.{◌≡◌, ℕ, ◌-◌, Bool, leb, List, [], ◌∷◌, ◌++◌, length, Option, Some, None}
use Rattle.wc_syntax.specs.declared.kind.Kind.{Kind}
use Rattle.wc_syntax.specs.declared.role.Role.{Role}
use Rattle.wc_syntax.specs.declared.place.Place.{Place}
use Rattle.wc_syntax.specs.declared.place.Place.TheVariants as place
use Rattle.wc_syntax.specs.declared.place.Frame.{Frame}
use Rattle.wc_syntax.specs.declared.place.Frame.TheVariants as frame
use Rattle.wc_syntax.specs.declared.place.Move.{Move}
use Rattle.wc_syntax.specs.declared.place.Move.TheVariants.{On, Past, Turn, Into, Out}
use Rattle.wc_syntax.specs.declared.place.Action.{Action}
use Rattle.wc_syntax.specs.Standard.Phrases.{word}
use Rattle.wc_syntax.specs.Standard.Deriving.{at, Event, kept}
use Rattle.wc_syntax.specs.Tables.Table.{step, resume}

-- where a reader stands: how many instructions may be nested in one another, what may still come in front of the rest
-- of the innermost frame, that frame, and those around it, innermost first
pub record Standing : Type 0 where
  pub limit : ℕ
  pub place : Place
  pub frame : Frame
  pub around : List Frame

-- the standing with this limit, at this place of this frame, which these enclose, innermost first
abbrev pub standing : ℕ → Place → Frame → List Frame → Standing
standing d p f fs = record { limit = d; place = p; frame = f; around = fs }

-- in front of the first token
abbrev pub start : ℕ → Standing
start d = standing d place.Done frame.Start []

-- no more may be nested: the text itself is the outermost frame
abbrev pub is_deep : Standing → Bool
is_deep s = leb s.limit (length s.around - 1)

-- one less is open
abbrev pub left_for : ℕ → Place → Frame → List Frame → Standing
left_for d p f [] = standing d p f []
left_for d p f (g ∷ gs) = standing d p g gs

-- where a move leads
abbrev pub moved : Move → Standing → Standing
moved (On p) s = standing s.limit p s.frame s.around
moved (Past p) s = standing s.limit p (resume s.frame) s.around
moved (Turn p f) s = standing s.limit p f s.around
moved (Into p f) s = standing s.limit p f (resume s.frame ∷ s.around)
moved (Out p) s = left_for s.limit p s.frame s.around

-- what a token of the kind does there
abbrev pub action_at : Standing → Kind → Option Action
action_at s k = step s.place s.frame (is_deep s) k

-- what is kept of the token of this number
abbrev pub kept_as : Option Role → ℕ → Kind → List Event
kept_as None n k = []
kept_as (Some r) n k = kept r (at n (word k)) ∷ []

-- `IsRead d ks es s`: behind tokens of the kinds ks, of which the tokens es are kept, the reader stands so
pub data IsRead (d : ℕ) : List Kind → List Event → Standing → Type 0 where
  nothing_read : IsRead d [] [] (start d)
  one_read : {ks : List Kind} {es : List Event} {s : Standing} (k : Kind) (a : Action) → IsRead d ks es s
      → action_at s k ≡ Some a → IsRead d (ks ++ k ∷ []) (es ++ kept_as a.keep (length ks) k) (moved a.go s)
