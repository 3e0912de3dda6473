-- Instructions in reading order, each with what is known of those that enclose it.
use Rattle.std.specs.Prelude.{ℕ, ◌+◌, List, [], ◌∷◌, ◌++◌}
use Rattle.wc_body.specs.Standard.Nested.{Code, empty, op, region, choice, Mark, plain, begin, begin_if}

-- S is what is known of those that enclose an instruction, and enter the same within one more
module _ {S P H : Type 0} (enter : S → H → S) where
  -- each instruction in reading order, with what encloses it
  abbrev pub placed : S → Code P H → List (S × Mark P H)
  placed s empty = []
  placed s (op p next) = (s, plain p) ∷ placed s next
  placed s (region r h inside next) = (s, begin r h) ∷ (placed (enter s h) inside ++ placed s next)
  placed s (choice h first second next) =
      (s, begin_if h) ∷ (placed (enter s h) first ++ (placed (enter s h) second ++ placed s next))

  -- each instruction and each head changed on its own, knowing what encloses it
  abbrev pub mapped : {Q I : Type 0} → (S → P → Q) → (S → H → I) → S → Code P H → Code Q I
  mapped f k s empty = empty
  mapped f k s (op p next) = op (f s p) (mapped f k s next)
  mapped f k s (region r h inside next) = region r (k s h) (mapped f k (enter s h) inside) (mapped f k s next)
  mapped f k s (choice h first second next) =
      choice (k s h) (mapped f k (enter s h) first) (mapped f k (enter s h) second) (mapped f k s next)

-- how many enclose it
abbrev pub deeper : {H : Type 0} → ℕ → H → ℕ
deeper n h = n + 1
