-- What is kept of the labels of the blocks that are open.
use Rattle.std.specs.Prelude.{◌≡◌, ℕ, true, ⊤, List, [], ◌∷◌, ◌++◌, length, map}
use Rattle.std.specs.Prelude.{Option, Some, None, is_some, if◌then◌else◌}
use Rattle.wc_spaces.specs.declared.labels.Open.{Open}
use Rattle.wc_spaces.specs.declared.labels.Labels.{Labels}
use Rattle.wc_spaces.specs.declared.places.Places.{Places}
use Rattle.wc_spaces.specs.Kept.Places.{place_in, text_of}
use Rattle.wc_spaces.specs.Standard.Spaces.{is_named}

-- how many enclose the innermost that has the identifier
abbrev pub height_of : List ℕ → List (Option (List ℕ)) → Option ℕ
height_of q [] = None
height_of q (d ∷ ds) = if is_named q d then Some (length ds) else height_of q ds

-- the height of the one that a label hides
abbrev pub hidden_by : Option (List ℕ) → List (Option (List ℕ)) → Option ℕ
hidden_by None ds = None
hidden_by (Some text) ds = height_of text ds

-- each that is open, the outermost first, with the height of what it hides
abbrev pub opened : List (Option (List ℕ)) → List (Option (List ℕ) × Option ℕ)
opened [] = []
opened (d ∷ ds) = opened ds ++ (d, hidden_by d ds) ∷ []

-- the text of an open block's label, and the height of the one that the label hides
abbrev pub kept_of : Open → Option (List ℕ) × Option ℕ
kept_of o = (text_of o.label, o.hidden)

-- these are open, the innermost first
pub record IsLabels (ds : List (Option (List ℕ))) (labels : Labels) : Type 0 where
  pub heights : (q : List ℕ) → place_in labels.heights q ≡ height_of q ds
  pub open_ones : map kept_of labels.open.items ≡ opened ds

-- how many are open
abbrev pub depth_of : Labels → ℕ
depth_of labels = length labels.open.items

-- the height of the one that a label is to hide
abbrev pub hidden_in : Places → Option (List ℕ) → Option ℕ
hidden_in places None = None
hidden_in places (Some text) = place_in places text

-- a label has a height
abbrev pub IsNamedIn : Places → Option (List ℕ) → Type 0
IsNamedIn places None = ⊤
IsNamedIn places (Some text) = is_some (place_in places text) ≡ true
