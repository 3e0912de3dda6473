-- What is read behind an opcode: an instruction in which none is nested, or where nested ones begin, turn to the else
-- part, or end.
use Rattle.std.specs.Prelude.{◌≡◌, ◌<◌, ℕ, nat_lt, Bool, true, false, not, List, length, Result, Ok, Err}
use Rattle.wc_ops.specs.declared.op.Op.{Op}
use Rattle.wc_body.specs.declared.entry.Kind.{Kind}
use Rattle.wc_body.specs.declared.entry.Kind.TheVariants.{Block, Loop, If}
use Rattle.wc_body.specs.declared.entry.Entry.{Entry}
use Rattle.wc_body.specs.declared.instr.Instr.{Instr}
use Rattle.wc_body.specs.declared.instr.BlockType.{BlockType}
use Rattle.wc_body.specs.Standard.Nested.{Mark, block, loop, nesting_limit}
use Rattle.wc_body.specs.Standard.Draft.{Draft, step, may_come, begins, in_first_part}
use Rattle.wc_body.specs.Standard.Entries.{mark}
use Rattle.wc_body.specs.Drafting.FreeEntries.{AddsFree}
use Rattle.wc_binary.specs.declared.fault.BinFault.{BinFault}
use Rattle.wc_binary.specs.declared.fault.BinWhy.{BinWhy}
use Rattle.wc_binary.specs.Standard.Expression.{Begun, region_op, if_op, standing}
use Rattle.wc_binary.specs.Standard.Phrase.{Halt}
use Rattle.wc_binary.specs.Reading.Reading.{Got, read, is_last, behind_opcode}
use Rattle.wc_binary.specs.Standard.Instructions.{opcode, follows, block_type}
use Rattle.wc_binary.specs.Reading.Source.{Input, AreAhead, Passes, Fails, Gave}

-- what a block, a loop or an if begins
abbrev pub begun_by : Kind → Begun Op
begun_by Block = region_op block
begun_by Loop = region_op loop
begun_by If = if_op

-- what an opcode begins, where it stands behind the draft
abbrev pub standing_behind : Draft Instr BlockType → Result (Begun Op) BinWhy → Result (Begun Op) BinWhy
standing_behind d k = standing (nat_lt (length d.around) nesting_limit) (in_first_part d.around) k

-- the mark that comes behind the draft, of an opcode at this place that begins k; these bytes are left behind it
abbrev pub mark_behind :
    Draft Instr BlockType → Result (Begun Op) BinWhy → ℕ → List ℕ → Result (Got (Mark Instr BlockType)) Halt
mark_behind d k o x =
    behind_opcode opcode (λ u q y. read (follows u) q y) (λ q y. read block_type q y) (standing_behind d k) o x

-- the answer is the entry of the mark that the reading r gives of the bytes to come
abbrev pub GaveEntry :
    Input → Input → Result Entry BinFault → (List ℕ → Result (Got (Mark Instr BlockType)) Halt) → Type 0
GaveEntry old new (Ok e) r = Gave old new (Ok (mark e)) r
GaveEntry old new (Err f) r = Fails old new f r

-- the same of what follows an opcode that begins k behind the draft
abbrev pub GivesEntry :
    Draft Instr BlockType → Result (Begun Op) BinWhy → ℕ → Input → Input → Result Entry BinFault → Type 0
GivesEntry d k at old new result = GaveEntry old new result (λ x. mark_behind d k at x)

-- the entry opens none beyond the limit, and it may come next unless it ends the expression
abbrev pub MayStand : Draft Instr BlockType → Entry → Type 0
MayStand d e =
    (begins (mark e) ≡ true → length d.around < nesting_limit) × (may_come d (mark e) ≡ not (is_last d (mark e)))

-- the entry was kept, unless it ends the expression
abbrev pub Keeps : Draft Instr BlockType → Entry → Draft Instr BlockType → Bool → Type 0
Keeps d e after more =
    (more ≡ may_come d (mark e)) × (more ≡ true → after ≡ step d (mark e)) × (more ≡ false → after ≡ d)

-- entries whose bytes lay ahead were added, and these bytes passed
abbrev pub AddsAhead : Draft Instr BlockType → Draft Instr BlockType → Input → Input → Type 0
AddsAhead d after old new =
    (bytes : List ℕ) × (n : ℕ) × AreAhead old (length bytes) bytes × AddsFree d after bytes n × Passes n old new n

-- what was read behind an opcode that begins k was kept
abbrev pub AddsNext :
    Draft Instr BlockType → Result (Begun Op) BinWhy → ℕ → Input → Input → Draft Instr BlockType → Result Bool BinFault
    → Type 0
AddsNext d k at old new after (Ok more) =
    (e : Entry) × GivesEntry d k at old new (Ok e) × MayStand d e × Keeps d e after more
AddsNext d k at old new after (Err f) = GivesEntry d k at old new (Err f)
