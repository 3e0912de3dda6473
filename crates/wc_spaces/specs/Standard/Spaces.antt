-- Index spaces and labels (Core 1.0, 6.3.5 and 6.6.1): lists of declarations, each with its identifier or with none.
-- Labels are such a list too, the innermost first (6.5.1).
use Rattle.std.specs.Prelude.{ℕ, Bool, false, List, [], ◌∷◌, ◌++◌, Option, Some, None, if◌then◌else◌}
use Rattle.std.specs.List.{list_any, position_from}
use Rattle.std.specs.Str.{bytes_eq}
use Rattle.wc_spaces.specs.declared.noted.Fault.{Fault}

-- it has this identifier
abbrev pub is_named : List ℕ → Option (List ℕ) → Bool
is_named q None = false
is_named q (Some text) = bytes_eq text q

-- the place of an identifier: that of the first that has it
abbrev pub place_of : List ℕ → List (Option (List ℕ)) → Option ℕ
place_of q ds = position_from (is_named q) 0 ds

-- the fault at this token, where one before it has its identifier
abbrev pub duplicate : {W : Type 0} → W → List (Option (List ℕ)) → ℕ → List ℕ → List (Fault W)
duplicate why before token text =
    if list_any (is_named text) before then record { token = token; why = why } ∷ [] else []

-- of a declaration and the token of its identifier, the identifier
abbrev pub identifier_of : Option (ℕ × List ℕ) → Option (List ℕ)
identifier_of None = None
identifier_of (Some d) = Some d.1

-- the faults of declarations behind others, each with the token of its identifier
abbrev pub duplicates_after : {W : Type 0}
    → W → List (Option (List ℕ)) → List (Option (ℕ × List ℕ)) → List (Fault W)
duplicates_after why before [] = []
duplicates_after why before (None ∷ ds) = duplicates_after why (before ++ None ∷ []) ds
duplicates_after why before (Some d ∷ ds) =
    duplicate why before d.0 d.1 ++ duplicates_after why (before ++ Some d.1 ∷ []) ds
