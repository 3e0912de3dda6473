-- What is found of a field by reference.
use Rattle.std.specs.Prelude.{List, [], ◌∷◌, Option, Some, None, option_copied}
use Rattle.std.specs.Borrow.{Bor}
use Rattle.wc_surface.specs.Standard.Identifiers.{Identifier}

-- what is declared, in a list
abbrev pub found : Option (Option (Bor Identifier)) → List (Option Identifier)
found None = []
found (Some id) = option_copied id ∷ []
