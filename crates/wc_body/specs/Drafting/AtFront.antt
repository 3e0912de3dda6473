-- Entries that bytes begin with, spelled as they are kept (Core 1.0, 5.4): what is noted of each, and what follows it.
use Rattle.std.specs.Prelude.{◌≡◌, ◌<◌, ◌≤◌, ◌+◌, ◌^◌, ℕ, zero, suc, ℤ, Bool, List, [], ◌∷◌, ◌++◌, length, take}
use Rattle.wc_leb128.specs.Standard.Shortest.{HoldsSigned}
use Rattle.wc_leb128.specs.Writing.Bytes.{unsigned_bytes, signed_bytes, signed_of}
use Rattle.wc_ops.specs.declared.op.SimpleOp.{SimpleOp}
use Rattle.wc_ops.specs.declared.op.IndexOp.{IndexOp}
use Rattle.wc_ops.specs.declared.op.MemOp.{MemOp}
use Rattle.wc_body.specs.declared.instr.BlockType.{BlockType}
use Rattle.wc_body.specs.declared.instr.Instr.{Instr}
use Rattle.wc_body.specs.declared.instr.Instr.TheVariants.{Mem, CallIndirect}
use Rattle.wc_body.specs.declared.instr.MemArg.{MemArg}
use Rattle.wc_body.specs.declared.entry.Kind.{Kind}
use Rattle.wc_body.specs.declared.entry.Entry.{Entry}
use Rattle.wc_body.specs.declared.entry.Entry.TheVariants.{Plain, Begin, Else, End}
use Rattle.wc_body.specs.declared.builder.Part.{Part}
use Rattle.wc_body.specs.declared.needs.Needs.{Needs}
use Rattle.wc_body.specs.Standard.Nested.{nesting_limit}
use Rattle.wc_body.specs.Standard.Entries.{mark}
use Rattle.wc_body.specs.Standard.ValueBytes.{Fits32}
use Rattle.wc_body.specs.Standard.InstructionBytes.{simple_rest, instr_bytes, rest_bytes, block_type_bytes}
use Rattle.wc_body.specs.Standard.InstructionBytes.{FitsInstr, FitsBlockType}
use Rattle.wc_body.specs.Standard.Needed.{with_simple, with_index, with_access, with_instr, with_block, with_mark}
use Rattle.wc_body.specs.Writing.EntryBytes.{entry_bytes, FitsEntry}
use Rattle.wc_body.specs.Drafting.OpenParts.{part_of}

-- these are the canonical bytes of a signed integer, which 32 bits hold, and so do 64
abbrev pub IsSpelled : List ℕ → Type 0
IsSpelled x = (z : ℤ) × (x ≡ signed_bytes z) × HoldsSigned 32 z × HoldsSigned 64 z

-- these two are the canonical bytes of a number of so many bits, as they are or turned over; one byte doesn't do
abbrev pub AreLast : ℕ → ℕ → Type 0
AreLast b c =
    (s : Bool) × (n : ℕ) × (b ∷ c ∷ [] ≡ signed_bytes (signed_of s n)) × (64 ≤ n) × (n < 2 ^ 13)

-- the same where three bytes in front of them are as many bits as 32 leave
abbrev pub AreLastOf32 : ℕ → ℕ → Type 0
AreLastOf32 b c =
    (s : Bool) × (n : ℕ) × (b ∷ c ∷ [] ≡ signed_bytes (signed_of s n)) × (64 ≤ n) × (n < 2 ^ 10)

-- the bytes begin with those of an integer that both widths hold; these follow
abbrev pub IsSplit : List ℕ → List ℕ → Type 0
IsSplit x rest = (y : List ℕ) × (x ≡ y ++ rest) × IsSpelled y

-- these are the canonical bytes of a signed integer that 64 bits hold
abbrev pub IsLongSpelled : List ℕ → Type 0
IsLongSpelled x = (z : ℤ) × (x ≡ signed_bytes z) × HoldsSigned 64 z

-- the bytes begin with those of one; these follow
abbrev pub IsLongSplit : List ℕ → List ℕ → Type 0
IsLongSplit x rest = (y : List ℕ) × (x ≡ y ++ rest) × IsLongSpelled y

-- the bytes begin with an index, and it was noted what its instruction needs
abbrev pub NotesIndex : IndexOp → ℕ → List ℕ → List ℕ → Needs → Needs → Type 0
NotesIndex op enclosing x rest s t =
    (n : ℕ) × (x ≡ unsigned_bytes n ++ rest) × Fits32 n × (t ≡ with_index s enclosing op n)

-- the same of a call through a table
abbrev pub NotesIndirect : ℕ → List ℕ → List ℕ → Needs → Needs → Type 0
NotesIndirect k x rest s t =
    (n : ℕ) × (x ≡ rest_bytes (CallIndirect n) ++ rest) × FitsInstr (CallIndirect n)
    × (t ≡ with_instr s k (CallIndirect n))

-- the same of an alignment and an offset
abbrev pub NotesAccess : MemOp → List ℕ → List ℕ → Needs → Needs → Type 0
NotesAccess op x rest s t =
    (arg : MemArg) × (x ≡ rest_bytes (Mem op arg) ++ rest) × FitsInstr (Mem op arg) × (t ≡ with_access s op arg.align)

-- nothing follows the opcode, and it needs nothing
abbrev pub IsBare : SimpleOp → Type 0
IsBare op = (simple_rest op ≡ []) × ((s : Needs) → with_simple s op ≡ s)

-- the same of an instruction of this opcode; how many blocks enclose it doesn't matter
abbrev pub NotesPlain : ℕ → List ℕ → List ℕ → Needs → Needs → Type 0
NotesPlain b x rest s t =
    (i : Instr) × (b ∷ x ≡ instr_bytes i ++ rest) × FitsInstr i × ((k : ℕ) → t ≡ with_instr s k i)

-- the bytes begin with an instruction, and it was noted what it needs, where so many blocks enclose it
abbrev pub NotesInstr : ℕ → List ℕ → List ℕ → Needs → Needs → Type 0
NotesInstr k x rest s t = (i : Instr) × (x ≡ instr_bytes i ++ rest) × FitsInstr i × (t ≡ with_instr s k i)

-- the bytes begin with so many instructions, one behind the other, and it was noted what each needs
abbrev pub NotesMany : ℕ → ℕ → List ℕ → List ℕ → Needs → Needs → Type 0
NotesMany zero k x rest s t = (rest ≡ x) × (t ≡ s)
NotesMany (suc n) k x rest s t = (y : List ℕ) × (u : Needs) × NotesMany n k x y s u × NotesInstr k y rest u t

-- the same of as many as there are
abbrev pub NotesRun : ℕ → List ℕ → List ℕ → Needs → Needs → Type 0
NotesRun k x rest s t = (n : ℕ) × NotesMany n k x rest s t

-- the byte is a block type on its own, which needs nothing
abbrev pub IsWholeType : ℕ → Type 0
IsWholeType b =
    (t : BlockType) × (b ∷ [] ≡ block_type_bytes t) × FitsBlockType t × ((s : Needs) → with_block s t ≡ s)

-- the bytes begin with a block type that needs nothing, and it was noted that one more is open
abbrev pub NotesBegin : Kind → List ℕ → List ℕ → List Part → List Part → Type 0
NotesBegin kind x rest old new =
    (t : BlockType) × (x ≡ block_type_bytes t ++ rest) × FitsBlockType t × ((s : Needs) → with_block s t ≡ s)
    × (length old < nesting_limit) × (new ≡ old ++ part_of kind ∷ [])

-- which are open behind the entry
abbrev pub Opens : Entry → List Part → List Part → Type 0
Opens (Plain i) old new = new ≡ old
Opens (Begin kind t) old new = (length old < nesting_limit) × (new ≡ old ++ part_of kind ∷ [])
Opens Else old new = ⊥
Opens End old new = (k : ℕ) × (k + 1 ≡ length old) × (new ≡ take k old)

-- the bytes begin with an entry, and it was noted what it needs and what is open behind it
abbrev pub Notes : List ℕ → List ℕ → Needs → Needs → List Part → List Part → Type 0
Notes x rest s t old new =
    (e : Entry) × (x ≡ entry_bytes e ++ rest) × FitsEntry e × (t ≡ with_mark s (length old) (mark e)) × Opens e old new

-- whatever was needed before, the bytes begin with an entry that needs no more, and it was noted what is open behind it
abbrev pub NotesMark : List ℕ → List ℕ → List Part → List Part → Type 0
NotesMark x rest old new = (s : Needs) → Notes x rest s s old new

-- the same of so many, one behind the other
abbrev pub NotesManyMarks : ℕ → List ℕ → List ℕ → List Part → List Part → Type 0
NotesManyMarks zero x rest old new = (rest ≡ x) × (new ≡ old)
NotesManyMarks (suc n) x rest old new =
    (y : List ℕ) × (parts : List Part) × NotesManyMarks n x y old parts × NotesMark y rest parts new

-- the same of as many as there are
abbrev pub NotesMarks : List ℕ → List ℕ → List Part → List Part → Type 0
NotesMarks x rest old new = (n : ℕ) × NotesManyMarks n x rest old new

-- the bytes begin with an entry, and as many that need no more follow it; it was noted what they need, and what is open
-- behind them
abbrev pub NotesUsual : List ℕ → List ℕ → Needs → Needs → List Part → List Part → Type 0
NotesUsual x rest s t old new =
    (y : List ℕ) × (parts : List Part) × Notes x y s t old parts × NotesMarks y rest parts new
