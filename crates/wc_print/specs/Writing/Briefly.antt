-- Brief entries (Core 1.0, 5.4) as lines (Core 1.0, 6.5): the line of an opcode, and the text of an operand behind it.
use Rattle.std.specs.Prelude.{◌≡◌, ℕ, zero, suc, ◌≤◌, ◌<◌, List, [], ◌∷◌, codes, take, slice_index}
use Rattle.wc_ops.specs.declared.op.Op.{Op}
use Rattle.wc_ops.specs.declared.op.Op.TheVariants as ops
use Rattle.wc_ops.specs.declared.op.OpByte.{OpByte}
use Rattle.wc_ops.specs.declared.op.OpByte.TheVariants.{Known, Float, Unknown}
use Rattle.wc_ops.specs.Standard.Opcodes.{row}
use Rattle.wc_ops.specs.Reading.OpcodeMeaning.{meaning}
use Rattle.wc_body.specs.Standard.Walks.Brief.{signed_byte}
use Rattle.wc_print.specs.Standard.Printed.{word, number, integer, Item, after, below, printed}
use Rattle.wc_print.specs.Standard.Lines.{told, offset_items}

-- so many bytes of a text's row as its last byte says
abbrev pub told_text : List ℕ → List ℕ
told_text text = take (slice_index text 15) text

-- an operand by its kind: none, a natural number, a signed one, or an offset
abbrev pub operand_items : ℕ → ℕ → List Item
operand_items zero n = []
operand_items (suc zero) n = after (number n) ∷ []
operand_items (suc (suc zero)) n = after (integer (signed_byte n)) ∷ []
operand_items (suc (suc (suc k))) n = offset_items n

-- the kind of operand that a brief entry of this instruction has
abbrev pub operand_kind : Op → ℕ
operand_kind (ops.Index op) = 1
operand_kind ops.I32Const = 2
operand_kind ops.I64Const = 2
operand_kind (ops.Mem op) = 3
operand_kind _ = 0

-- the row tells this word on a line, and the byte before its last one says which operand follows
pub record Tells (w : List ℕ) (kind : ℕ) (r : List ℕ) : Type 0 where
  pub line : told r ≡ printed (below 4 (word w) ∷ [])
  pub operand : slice_index r 22 ≡ kind

-- the row tells what the byte means where an opcode may stand
abbrev pub TellsMeant : OpByte → ℕ → List ℕ → Type 0
TellsMeant (Known op) b r = Tells (row op).name (operand_kind op) r
TellsMeant Float b r = Unit {0}
TellsMeant Unknown b r = (b ≡ 0x05 → Tells (codes "else") 0 r) × (b ≡ 0x0B → Tells (codes "end") 0 r)

-- the line of this opcode
pub record IsLine (b : ℕ) (r : List ℕ) : Type 0 where
  pub meant : TellsMeant (meaning b) b r
  pub short : slice_index r 23 ≤ 22
  pub kind : slice_index r 22 < 4
