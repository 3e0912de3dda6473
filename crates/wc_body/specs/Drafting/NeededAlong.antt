-- What a row of marks needs.
use Rattle.std.specs.Prelude.{ℕ, ◌+◌, ◌-◌, List, [], ◌∷◌}
use Rattle.wc_body.specs.declared.instr.BlockType.{BlockType}
use Rattle.wc_body.specs.declared.instr.Instr.{Instr}
use Rattle.wc_body.specs.declared.needs.Needs.{Needs}
use Rattle.wc_body.specs.Standard.Nested.{Mark, plain, begin, begin_if, otherwise, close}
use Rattle.wc_body.specs.Standard.Needed.{with_instr, with_block}

-- these, and what a row of marks needs, of which so many blocks enclose the first
abbrev pub needs_along : Needs → ℕ → List (Mark Instr BlockType) → Needs
needs_along s k [] = s
needs_along s k (plain i ∷ ms) = needs_along (with_instr s k i) k ms
needs_along s k (begin r t ∷ ms) = needs_along (with_block s t) (k + 1) ms
needs_along s k (begin_if t ∷ ms) = needs_along (with_block s t) (k + 1) ms
needs_along s k (otherwise ∷ ms) = needs_along s k ms
needs_along s k (close ∷ ms) = needs_along s (k - 1) ms
