-- The heads of blocks (Core 1.0, 6.5.2).
use Rattle.std.specs.Prelude.{ℕ, zero, suc, List, [], ◌∷◌, Option, Some, None}
use Rattle.wc_surface.specs.declared.head.Head.{Head}
use Rattle.wc_surface.specs.declared.head.HeadType.{HeadType}
use Rattle.wc_surface.specs.Standard.Identifiers.{Identifier}

-- the head of the block at this token, with this label and this type
abbrev pub head_of : ℕ → Option Identifier → HeadType → Head
head_of token label ty = record { token = token; label = label; ty = ty; else_id = None; end_id = None }

-- the identifier behind `else`, in the head of this place
abbrev pub with_else_id : List Head → ℕ → Identifier → List Head
with_else_id [] h id = []
with_else_id (head ∷ heads) zero id = record head { else_id = Some id } ∷ heads
with_else_id (head ∷ heads) (suc h) id = head ∷ with_else_id heads h id

-- the identifier behind `end`, in the head of this place
abbrev pub with_end_id : List Head → ℕ → Identifier → List Head
with_end_id [] h id = []
with_end_id (head ∷ heads) zero id = record head { end_id = Some id } ∷ heads
with_end_id (head ∷ heads) (suc h) id = head ∷ with_end_id heads h id
