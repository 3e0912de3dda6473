-- The canonical bytes of instructions, entry by entry; and which entries have some (Core 1.0, 5.4).
use Rattle.std.specs.Prelude.{ℕ, List, [], ◌∷◌, ◌++◌}
use Rattle.wc_body.specs.declared.entry.Kind.{Kind}
use Rattle.wc_body.specs.declared.entry.Kind.TheVariants as kinds
use Rattle.wc_body.specs.declared.entry.Entry.{Entry}
use Rattle.wc_body.specs.declared.entry.Entry.TheVariants as entries
use Rattle.wc_body.specs.Standard.InstructionBytes.{instr_bytes, block_type_bytes, FitsInstr, FitsBlockType}

-- the byte that a block, a loop or an if begins with
abbrev pub opening_bytes : Kind → List ℕ
opening_bytes kinds.Block = 0x02 ∷ []
opening_bytes kinds.Loop = 0x03 ∷ []
opening_bytes kinds.If = 0x04 ∷ []

-- the bytes of an entry
abbrev pub entry_bytes : Entry → List ℕ
entry_bytes (entries.Plain i) = instr_bytes i
entry_bytes (entries.Begin kind t) = opening_bytes kind ++ block_type_bytes t
entry_bytes entries.Else = 0x05 ∷ []
entry_bytes entries.End = 0x0B ∷ []

-- each number of the entry fits its width
abbrev pub FitsEntry : Entry → Type 0
FitsEntry (entries.Plain i) = FitsInstr i
FitsEntry (entries.Begin kind t) = FitsBlockType t
FitsEntry entries.Else = Unit {0}
FitsEntry entries.End = Unit {0}
