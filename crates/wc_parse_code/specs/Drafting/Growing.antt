-- What was said stays said.
use Rattle.std.specs.Prelude.{◌≡◌, List, ◌++◌, map, None}
use Rattle.wc_surface.specs.declared.head.Head.{Head}
use Rattle.wc_surface.specs.declared.head.TextBody.{TextBody}

-- the second list is the first, and what follows it
pub record Continues {X : Type 0} (xs ys : List X) : Type 0 where
  pub more : List X
  pub is : ys ≡ xs ++ more

-- the head as it is where its block begins: the identifiers behind `else` and `end` come later (Core 1.0, 6.5.2)
abbrev pub begun_head : Head → Head
begun_head h = record h { else_id = None; end_id = None }

-- the heads, type uses, identifiers and labels of a body, and those that follow them
pub record Grows (before after : TextBody) : Type 0 where
  pub heads : Continues (map begun_head before.heads) (map begun_head after.heads)
  pub uses : Continues before.uses after.uses
  pub ids : Continues before.ids after.ids
  pub labels : Continues before.labels after.labels
