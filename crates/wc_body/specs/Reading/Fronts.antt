-- What stands at the front of bytes, computed, and what follows it; none where nothing of the kind stands there.
use Rattle.std.specs.Prelude.{ℕ, zero, suc, ◌+◌, ◌-◌, ◌*◌, ◌^◌, ◌==◌, nat_lt, ◌&&◌, ℤ, pos, negsuc, ◌+ℤ◌, ◌-ℤ◌}
use Rattle.std.specs.Prelude.{◌*ℤ◌, List, [], ◌∷◌, Option, Some, None, option_map, if◌then◌else◌}
use Rattle.std.specs.Borrow.{Bor}
use Rattle.wc_ops.specs.Standard.ValueTypes.{value_type_byte}
use Rattle.wc_ops.specs.declared.val_type.ValType.TheVariants.{I32, I64}
use Rattle.wc_ops.specs.declared.op.Op.{Op}
use Rattle.wc_ops.specs.declared.op.Op.TheVariants as ops
use Rattle.wc_ops.specs.declared.op.OpByte.{OpByte}
use Rattle.wc_ops.specs.declared.op.OpByte.TheVariants as bytes
use Rattle.wc_ops.specs.declared.op.SimpleOp.{SimpleOp}
use Rattle.wc_ops.specs.declared.op.SimpleOp.TheVariants as simple
use Rattle.wc_ops.specs.declared.op.IndexOp.{IndexOp}
use Rattle.wc_ops.specs.declared.op.MemOp.{MemOp}
use Rattle.wc_body.specs.declared.instr.Instr.TheVariants as instrs
use Rattle.wc_body.specs.declared.instr.BlockType.{BlockType}
use Rattle.wc_body.specs.declared.instr.BlockType.TheVariants as block_types
use Rattle.wc_body.specs.declared.entry.Kind.{Kind}
use Rattle.wc_body.specs.declared.entry.Kind.TheVariants as kinds
use Rattle.wc_body.specs.declared.entry.Entry.{Entry}
use Rattle.wc_body.specs.declared.entry.Entry.TheVariants.{Plain, Begin, Else, End}
use Rattle.wc_ops.specs.Reading.OpcodeMeaning.{meaning}

infixl 10 ◌then◌
-- a value that was found, and the bytes that follow it
abbrev pub seen : {A : Type 0} → A × Bor (List ℕ) → A × List ℕ
seen found = (found.0, found.1.now)

-- ---- integers (Core 1.0, 5.2.2)

-- the number that the byte begins, where this one stands behind it
abbrev pub longer : ℕ → ℕ × List ℕ → ℕ × List ℕ
longer b m = (128 * m.0 + (b - 128), m.1)

-- an unsigned integer of so many bits
abbrev pub unsigned_front : ℕ → List ℕ → Option (ℕ × List ℕ)
unsigned_front N [] = None
unsigned_front N (b ∷ x) =
    if nat_lt b 128
    then (if nat_lt b (2 ^ N) then Some (b, x) else None)
    else (if nat_lt b 256 && nat_lt 7 N then option_map (longer b) (unsigned_front (N - 7) x) else None)

-- the same of signed ones
abbrev pub longer_signed : ℕ → ℤ × List ℕ → ℤ × List ℕ
longer_signed b m = ((pos 128 *ℤ m.0) +ℤ (pos b -ℤ pos 128), m.1)

-- a signed one
abbrev pub signed_front : ℕ → List ℕ → Option (ℤ × List ℕ)
signed_front N [] = None
signed_front N (b ∷ x) =
    if nat_lt b 64
    then (if nat_lt b (2 ^ (N - 1)) then Some (pos b, x) else None)
    else (if nat_lt b 128
    then (if nat_lt (b + 2 ^ (N - 1)) 128 then None else Some (pos b -ℤ pos 128, x))
    else (if nat_lt b 256 && nat_lt 7 N then option_map (longer_signed b) (signed_front (N - 7) x) else None))

-- ---- what follows an opcode (5.4)

-- where something was found, what is found behind it
abbrev pub ◌then◌ : {A B : Type 0} → Option A → (A → Option B) → Option B
None then f = None
(Some x) then f = f x

-- the label that was found, and the labels behind it
abbrev label_and : Option (ℕ × List ℕ) → (List ℕ → List ℕ) → List ℕ
label_and None more = []
label_and (Some n) more = n.0 ∷ more n.1

-- so many labels, or those that are there
abbrev pub labels_front : ℕ → List ℕ → List ℕ
labels_front zero x = []
labels_front (suc k) x = label_and (unsigned_front 32 x) (λ y. labels_front k y)

-- what follows so many labels
abbrev pub behind_labels : ℕ → List ℕ → Option (List ℕ)
behind_labels zero x = Some x
behind_labels (suc k) x = unsigned_front 32 x then λ n. behind_labels k n.1

-- a byte that the standard keeps for later: it is passed over, whatever it is
abbrev pub behind_byte : List ℕ → Option (List ℕ)
behind_byte [] = None
behind_byte (b ∷ x) = Some x

-- this was found, and these bytes follow it
abbrev pub found : {A : Type 0} → A → List ℕ → Option (A × List ℕ)
found v x = Some (v, x)

-- an instruction without immediate
abbrev pub simple_front : SimpleOp → List ℕ → Option (Entry × List ℕ)
simple_front simple.MemorySize x = behind_byte x then λ y. found (Plain (instrs.Simple simple.MemorySize)) y
simple_front simple.MemoryGrow x = behind_byte x then λ y. found (Plain (instrs.Simple simple.MemoryGrow)) y
simple_front op x = found (Plain (instrs.Simple op)) x

-- one with an index
abbrev pub index_front : IndexOp → List ℕ → Option (Entry × List ℕ)
index_front op x = unsigned_front 32 x then λ n. found (Plain (instrs.Index op n.0)) n.1

-- a load or a store
abbrev pub memory_front : MemOp → List ℕ → Option (Entry × List ℕ)
memory_front op x =
    unsigned_front 32 x then λ align.
    unsigned_front 32 align.1 then λ offset.
    found (Plain (instrs.Mem op (record { align = align.0; offset = offset.0 }))) offset.1

-- labels, and the default label
abbrev pub table_front : List ℕ → Option (Entry × List ℕ)
table_front x =
    unsigned_front 32 x then λ count.
    behind_labels count.0 count.1 then λ y.
    unsigned_front 32 y then λ default.
    found (Plain (instrs.BrTable default.0 (labels_front count.0 count.1))) default.1

-- the index of a type, and a byte that is kept for later
abbrev pub call_indirect_front : List ℕ → Option (Entry × List ℕ)
call_indirect_front x =
    unsigned_front 32 x then λ ty. behind_byte ty.1 then λ y. found (Plain (instrs.CallIndirect ty.0)) y

-- an integer of 32 bits
abbrev pub i32_front : List ℕ → Option (Entry × List ℕ)
i32_front x = signed_front 32 x then λ n. found (Plain (instrs.I32Const n.0)) n.1

-- an integer of 64 bits
abbrev pub i64_front : List ℕ → Option (Entry × List ℕ)
i64_front x = signed_front 64 x then λ n. found (Plain (instrs.I64Const n.0)) n.1

-- a block type by the index of a type, which is not negative
abbrev pub index_type : ℤ → List ℕ → Option (BlockType × List ℕ)
index_type (pos n) x = found (block_types.Index n) x
index_type (negsuc n) x = None

-- the index of a type as a block type
abbrev pub type_index_front : List ℕ → Option (BlockType × List ℕ)
type_index_front x = signed_front 33 x then λ n. index_type n.0 n.1

-- none, a value type, or the index of a function type (Core 2.0, 5.4.1)
abbrev pub block_type_front : List ℕ → Option (BlockType × List ℕ)
block_type_front [] = None
block_type_front (b ∷ x) =
    if b == 0x40 then found block_types.Empty x
    else (if b == value_type_byte I32 then found (block_types.Value I32) x
    else (if b == value_type_byte I64 then found (block_types.Value I64) x
    else type_index_front (b ∷ x)))

-- a block type behind what begins a block, a loop or an if
abbrev pub begin_front : Kind → List ℕ → Option (Entry × List ℕ)
begin_front kind x = block_type_front x then λ t. found (Begin kind t.0) t.1

-- what follows the opcode of this instruction
abbrev pub known_front : Op → List ℕ → Option (Entry × List ℕ)
known_front (ops.Simple op) x = simple_front op x
known_front (ops.Index op) x = index_front op x
known_front (ops.Mem op) x = memory_front op x
known_front ops.BrTable x = table_front x
known_front ops.CallIndirect x = call_indirect_front x
known_front ops.I32Const x = i32_front x
known_front ops.I64Const x = i64_front x
known_front ops.Block x = begin_front kinds.Block x
known_front ops.Loop x = begin_front kinds.Loop x
known_front ops.If x = begin_front kinds.If x

-- ---- entries

-- a byte of this meaning, and what follows it
abbrev pub meant_front : OpByte → ℕ → List ℕ → Option (Entry × List ℕ)
meant_front (bytes.Known op) b x = known_front op x
meant_front bytes.Float b x = None
meant_front bytes.Unknown b x = if b == 0x05 then found Else x else (if b == 0x0B then found End x else None)

-- the entry at the front
unfoldable pub entry_front : List ℕ → Option (Entry × List ℕ)
entry_front [] = None
entry_front (b ∷ x) = meant_front (meaning b) b x
