-- How block comments are read.
use Rattle.std.specs.Prelude.{ℕ, zero, suc, ◌==◌, ◌&&◌, List, [], ◌∷◌, Option, Some, None, if◌then◌else◌}

-- what follows the `;)` of the inmost of so many more comments than one that are open
abbrev pub closed : ℕ → List ℕ → (ℕ → Option (List ℕ)) → Option (List ℕ)
closed zero text more = Some text
closed (suc depth) text more = more depth

-- What follows the outermost comment that is open at the front of a text, inside so many more. A `(;` opens
-- one, a `;)` closes one.
unfoldable pub after_comments : List ℕ → ℕ → Option (List ℕ)
after_comments [] depth = None
after_comments (c ∷ []) depth = None
after_comments (c ∷ d ∷ text) depth =
    if (c == 40) && (d == 59) then after_comments text (suc depth)
    else (if (c == 59) && (d == 41) then closed depth text (after_comments text)
    else after_comments (d ∷ text) depth)
