-- What the table says of a place, and that the grammar says the same.
use Rattle.std.proofs.Common.{◌≡◌, ℕ, zero, suc, Bool, true, false, List, [], ◌∷◌, Option, Some, None, map}
use Rattle.std.specs.Prelude.{◌&&◌, not}
use Rattle.wc_syntax.specs.declared.role.Role.{Role}
use Rattle.wc_syntax.specs.declared.place.Place.{Place}
use Rattle.wc_syntax.specs.declared.place.Frame.{Frame}
use Rattle.wc_syntax.specs.declared.place.Frame.TheVariants as frame
use Rattle.wc_syntax.specs.declared.place.Move.{Move}
use Rattle.wc_syntax.specs.declared.place.Move.TheVariants.{On, Past, Turn, Into, Out}
use Rattle.wc_syntax.specs.declared.place.Action.{Action}
use Rattle.wc_syntax.specs.Standard.Phrases.{Terminal, Phrase}
use Rattle.wc_syntax.proofs.Parser.Terminals.{all_terminals}
use Rattle.wc_syntax.specs.Tables.Table.{leads_to, is_end, resume}
use Rattle.wc_syntax.proofs.Stacks.Edges.{Edges, edges}
use Rattle.wc_syntax.proofs.Tabled.Places.{edges-all, pick, the-edges, left, front, over, is-open, fuel, means, Alt}
use Rattle.wc_syntax.proofs.Tabled.Places.{alt}
use Rattle.wc_syntax.proofs.Tabled.Validity.{valid, is-block, fits-in, leaves}
use Rattle.wc_syntax.proofs.Tabled.PlaceList.{all-places, over-frame}

abbrev pub tag : Option Role → List (List Phrase) → List Alt
tag o [] = []
tag o (s ∷ ss) = alt o s ∷ tag o ss

abbrev pub at-bottom : Frame → Bool
at-bottom frame.Start = true
at-bottom frame.Fields = true
at-bottom frame.Module = true
at-bottom frame.Closed = true
at-bottom _ = false

-- one more is open in what is left; only one in the fields does not count
abbrev pub entered : Bool → ℕ → Frame → Place → Frame → List (List Phrase)
entered true d f p g = over (left d f) (means d p g)
entered false zero f p g = []
entered false (suc d) f p g = over (left (suc d) f) (means d p g)

abbrev pub led : ℕ → Frame → Move → List (List Phrase)
led d f (On p) = means d p f
led d f (Past p) = means d p (resume f)
led d f (Turn p g) = means d p g
led d f (Into p g) = entered (at-bottom (resume f)) d (resume f) p g
led d f (Out p) = front p

abbrev pub said : ℕ → Frame → Option Action → List Alt
said d f None = []
said d f (Some a) = tag a.keep (led d f a.go)

abbrev pub some : {A : Type 0} → List A → Bool
some [] = false
some (x ∷ xs) = true

abbrev pub alike : Bool → Bool → Bool
alike true q = q
alike false q = not q

-- an action leads somewhere, and the bottom is never left
abbrev pub sound-go : ℕ → Frame → Move → Bool
sound-go d f (On p) = valid p f
sound-go d f (Past p) = valid p (resume f) && (alike (at-bottom f) (at-bottom (resume f)) && alike (is-block f)
    (is-block (resume f)))
sound-go d f (Turn p g) = valid p g && (alike (at-bottom f) (at-bottom g) && alike (is-block f) (is-block g))
sound-go d f (Into p g) =
    valid p g && (not (at-bottom g) && (fits-in g (resume f) &&
    (alike (at-bottom f) (at-bottom (resume f)) && alike (is-block f) (is-block (resume f)))))
sound-go d f (Out p) = leaves f p && (not (at-bottom f) && not (is-open p))

abbrev pub sound : ℕ → Frame → Option Action → Bool
sound d f None = true
sound d f (Some a) = some (led d f a.go) && sound-go d f a.go

abbrev pub limit-reached : ℕ → Bool
limit-reached zero = true
limit-reached (suc d) = false

abbrev pub picks : List Terminal → Edges → List (List Alt)
picks ts es = map (λ t. pick t (the-edges es)) ts

abbrev pub all-edges : ℕ → Place → Frame → Edges
all-edges d p f = edges-all fuel (means d p f)

abbrev pub all-picks : ℕ → Place → Frame → List (List Alt)
all-picks d p f = picks all_terminals (edges-all fuel (means d p f))

abbrev pub all-said : ℕ → Place → Frame → List (List Alt)
all-said d p f = map (λ t. said d f (leads_to p f (limit-reached d) t)) all_terminals

abbrev pub all-sound : ℕ → Place → Frame → List Bool
all-sound d p f = map (λ t. sound d f (leads_to p f (limit-reached d) t)) all_terminals

abbrev pub trues : List Bool
trues = map (λ t. true) all_terminals

abbrev pub ended-edges : ℕ → Place → Frame → Edges
ended-edges d p f = edges (the-edges (edges-all fuel (means d p f))) (is_end p f)

-- at each place over the frame the table says of each kind of token what the grammar has
pub record Tabled (d : ℕ) (f : Frame) : Type 0 where
  pub agrees : map (λ p. all-picks d p f) (over-frame f all-places) ≡ map (λ p.
      all-said d p f) (over-frame f all-places)
  pub ends : map (λ p. all-edges d p f) (over-frame f all-places) ≡ map (λ p.
      ended-edges d p f) (over-frame f all-places)
  pub all-lead : map (λ p. all-sound d p f) (over-frame f all-places) ≡ map (λ p. trues) (over-frame f all-places)
