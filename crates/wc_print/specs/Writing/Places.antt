-- Where an instruction is put.
use Rattle.std.specs.Prelude.{ℕ, List}
use Rattle.std.specs.List.{flat_map}
use Rattle.wc_body.specs.declared.instr.BlockType.{BlockType}
use Rattle.wc_body.specs.declared.instr.Instr.{Instr}
use Rattle.wc_body.specs.Standard.Nested.{Mark}
use Rattle.wc_print.specs.declared.bodies.Place.{Place}
use Rattle.wc_print.specs.declared.bodies.Place.TheVariants.{Line, Inline}
use Rattle.wc_print.specs.Standard.Printed.{Printed, Item, after, below}
use Rattle.wc_print.specs.Standard.Going.{Leaves}
use Rattle.wc_print.specs.Standard.Lines.{mark_items}

-- on a line of its own behind four spaces, or behind a space
abbrev pub item_at : Place → Printed → Item
item_at Line = λ p. below 4 p
item_at Inline = λ p. after p

-- a mark on a line of its own
abbrev pub line_items : Mark Instr BlockType → List Item
line_items m = mark_items (λ p. below 4 p) m

-- where the marks that are left are put behind this, each on a line, all are put behind the old
abbrev pub LeavesLines : {F S : Type 0} → (F → S → List ℕ → Type 0) → (left all : List (Mark Instr BlockType)) → S → S
    → Type 0
LeavesLines Has left all out old =
    Leaves Has (flat_map (mark_items (λ p. below 4 p)) left) (flat_map (mark_items (λ p. below 4 p)) all) out old
