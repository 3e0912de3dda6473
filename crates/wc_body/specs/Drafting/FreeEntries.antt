-- Entries that were added by bytes that spell them, where an integer may be longer than it is kept (Core 1.0, 5.2.2).
use Rattle.std.specs.Prelude.{◌≡◌, ◌≤◌, ◌⊎◌, ℕ, List, [], ◌∷◌, ◌++◌, length, take}
use Rattle.wc_leb128.specs.Standard.Integers.{U, S}
use Rattle.wc_ops.specs.declared.op.SimpleOp.{SimpleOp}
use Rattle.wc_ops.specs.Standard.Opcodes.{row}
use Rattle.wc_body.specs.declared.instr.BlockType.{BlockType}
use Rattle.wc_body.specs.declared.instr.Instr.{Instr}
use Rattle.wc_body.specs.declared.instr.Instr.TheVariants.{Simple, Index, Mem, I32Const, I64Const}
use Rattle.wc_body.specs.declared.entry.Entry.{Entry}
use Rattle.wc_body.specs.declared.entry.Entry.TheVariants.{Plain}
use Rattle.wc_body.specs.declared.needs.Needs.{Needs}
use Rattle.wc_body.specs.Standard.Nested.{plain}
use Rattle.wc_body.specs.Standard.Draft.{Draft, step, steps}
use Rattle.wc_body.specs.Standard.Entries.{marks}
use Rattle.wc_body.specs.Standard.InstructionBytes.{op_of, instr_bytes, FitsInstr}
use Rattle.wc_body.specs.Standard.Needed.{with_instr}
use Rattle.wc_body.specs.Writing.EntryBytes.{entry_bytes, FitsEntry}
use Rattle.wc_body.specs.Drafting.FrontEntries.{AllStand}

-- these bytes spell what stands behind the opcode of this instruction: an index, a constant, or an alignment and an
-- offset
abbrev pub SpellsIntegers : Instr → List ℕ → Type 0
SpellsIntegers (Index op n) x = U 32 x n
SpellsIntegers (I32Const z) x = S 32 x z
SpellsIntegers (I64Const z) x = S 64 x z
SpellsIntegers (Mem op arg) x = (y z : List ℕ) × (x ≡ y ++ z) × U 32 y arg.align × U 32 z arg.offset
SpellsIntegers _ x = ⊥

-- these are the opcode of the instruction and bytes that spell its integers
abbrev pub IsFree : Instr → List ℕ → Type 0
IsFree i x = (y : List ℕ) × (x ≡ (row (op_of i)).byte ∷ y) × SpellsIntegers i y

-- these bytes spell the entry: they are its canonical ones, or its integers have any spelling
abbrev pub SpellsEntry : Entry → List ℕ → Type 0
SpellsEntry e x = ((x ≡ entry_bytes e) × FitsEntry e) ⊎ ((i : Instr) × (e ≡ Plain i) × IsFree i x)

-- the bytes begin with an instruction, so spelled, which was added to the draft; these follow it
abbrev pub AddsOne : Draft Instr BlockType → Draft Instr BlockType → List ℕ → List ℕ → Type 0
AddsOne d after x rest =
    (i : Instr) × (y : List ℕ) × (x ≡ y ++ rest) × SpellsEntry (Plain i) y × (after ≡ step d (plain i))

-- the instruction of this opcode has no other byte, and needs nothing
abbrev pub IsAlone : ℕ → Type 0
IsAlone a =
    (op : SimpleOp) × (a ∷ [] ≡ instr_bytes (Simple op)) × ((s : Needs) (k : ℕ) → with_instr s k (Simple op) ≡ s)

-- it was noted what the instruction needs that these two bytes are, where so many blocks enclose it
abbrev pub NotesTwo : ℕ → ℕ → ℕ → Needs → Needs → Type 0
NotesTwo k a b s t = (i : Instr) × (a ∷ b ∷ [] ≡ instr_bytes i) × FitsInstr i × (t ≡ with_instr s k i)

-- these bytes spell the entries, one after the other
abbrev pub SpellEntries : List Entry → List ℕ → Type 0
SpellEntries [] x = x ≡ []
SpellEntries (e ∷ es) x = (y z : List ℕ) × (x ≡ y ++ z) × SpellsEntry e y × SpellEntries es z

-- so many of these bytes spell entries, each of which stands behind the draft and was added to it
abbrev pub AddsFree : Draft Instr BlockType → Draft Instr BlockType → List ℕ → ℕ → Type 0
AddsFree d after x n =
    (n ≤ length x) × ((es : List Entry) × SpellEntries es (take n x) × AllStand d es × (after ≡ steps d (marks es)))
