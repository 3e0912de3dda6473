-- What a word may say by its first characters.
use Rattle.std.specs.Prelude.{ℕ, nat_eq, nat_le, ◌==◌, ◌&&◌, List, [], ◌∷◌, codes, if◌then◌else◌}
use Rattle.std.specs.List.{starts_with}
use Rattle.wc_symbols.specs.declared.shape.Shape.{Shape}
use Rattle.wc_symbols.specs.declared.shape.Shape.TheVariants.{Natural, Plus, Minus, Offset, Align, Name}

-- a digit, a sign, `offset=`, `align=` or anything else
abbrev pub shape_of : List ℕ → Shape
shape_of [] = Name
shape_of (c ∷ rest) =
    if nat_le 48 c && nat_le c 57 then Natural
    else (if c == 43 then Plus
    else (if c == 45 then Minus
    else (if (c == 111) && starts_with nat_eq (c ∷ rest) (codes "offset=") then Offset
    else (if (c == 97) && starts_with nat_eq (c ∷ rest) (codes "align=") then Align
    else Name))))
