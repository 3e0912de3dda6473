-- Entries that were packed are found again.
use Rattle.std.specs.Prelude.{ℤ, pos}
use Rattle.std.proofs.Common.{◌≡◌, ℕ, zero, suc, ◌<◌, ◌≤◌, ◌⊎◌, List, [], ◌∷◌, ◌++◌, length, Some}
use Rattle.std.proofs.Common.{false, nat_eq, inl, inr, refl, append_assoc, arith}
use Rattle.std.proofs.lemmas.Bool.{ne_eqb}
use Rattle.std.proofs.lemmas.Int.{ints}
use Rattle.std.proofs.lemmas.List.{length-append}
use Rattle.std.specs.List.{AllByRecursion, flat_map}
use Rattle.wc_leb128.specs.Standard.Shortest.{HoldsSigned}
use Rattle.wc_leb128.specs.Writing.Bytes.{unsigned_bytes, signed_bytes}
use Rattle.wc_leb128.proofs.Writing.UnsignedShortest.{unsigned_bytes-spelled}
use Rattle.wc_leb128.proofs.Writing.SignedShortest.{signed_bytes-spelled, signed_bytes-begin}
use Rattle.wc_ops.specs.declared.val_type.ValType.TheVariants.{I32, I64}
use Rattle.wc_ops.specs.declared.op.Op.TheVariants as ops
use Rattle.wc_ops.specs.declared.op.OpByte.{OpByte}
use Rattle.wc_ops.specs.declared.op.SimpleOp.{SimpleOp}
use Rattle.wc_ops.specs.declared.op.SimpleOp.TheVariants.{MemorySize, MemoryGrow}
use Rattle.wc_body.specs.declared.instr.Instr.{Instr}
use Rattle.wc_body.specs.declared.instr.Instr.TheVariants.{Simple, Index, Mem, BrTable, CallIndirect, I32Const}
use Rattle.wc_body.specs.declared.instr.Instr.TheVariants.{I64Const}
use Rattle.wc_body.specs.declared.instr.BlockType.{BlockType}
use Rattle.wc_body.specs.declared.instr.BlockType.TheVariants as block_types
use Rattle.wc_body.specs.declared.entry.Kind.{Kind}
use Rattle.wc_body.specs.declared.entry.Kind.TheVariants.{Block, Loop, If}
use Rattle.wc_body.specs.declared.entry.Entry.{Entry}
use Rattle.wc_body.specs.declared.entry.Entry.TheVariants.{Plain, Begin, Else, End}
use Rattle.wc_ops.specs.Standard.ByteMeaning.{IsOpByte}
use Rattle.wc_ops.specs.Reading.OpcodeMeaning.{meaning}
use Rattle.wc_body.specs.Standard.ValueBytes.{Fits32}
use Rattle.wc_body.specs.Standard.InstructionBytes.{op_of, simple_rest, rest_bytes, block_type_bytes}
use Rattle.wc_body.specs.Writing.EntryBytes.{entry_bytes, FitsEntry}
use Rattle.wc_body.specs.Standard.InstructionBytes.{FitsInstr, FitsBlockType}
use Rattle.wc_body.specs.Reading.Fronts.{unsigned_front, signed_front, labels_front, behind_labels, simple_front}
use Rattle.wc_body.specs.Reading.Fronts.{known_front, block_type_front, begin_front, meant_front, entry_front}
use Rattle.wc_body.specs.Reading.Unpacked.{packed, unpacked_within, unpacked}
use Rattle.wc_body.proofs.Packing.Integers.{unsigned-found, signed-found}
use Rattle.wc_ops.proofs.Meanings.OfBytes.{row-meaning, meant}

number-found : (n : ℕ) (y : List ℕ) → Fits32 n → unsigned_front 32 (unsigned_bytes n ++ y) ≡ Some (n, y)
number-found n y f = unsigned-found 32 (unsigned_bytes n) y n (unsigned_bytes-spelled 32 n f)

integer-found : (N : ℕ) (n : ℤ) (y : List ℕ) → HoldsSigned N n → signed_front N (signed_bytes n ++ y) ≡ Some (n, y)
integer-found N n y h = signed-found N (signed_bytes n) y n (signed_bytes-spelled N n h)

labels-found : (ls y : List ℕ) → AllByRecursion Fits32 ls
    → (labels_front (length ls) (flat_map unsigned_bytes ls ++ y) ≡ ls)
    × (behind_labels (length ls) (flat_map unsigned_bytes ls ++ y) ≡ Some y)
labels-found [] y f = (refl, refl)
labels-found (l ∷ ls) y f =
    let e = number-found l (flat_map unsigned_bytes ls ++ y) f.0 in
    let ih = labels-found ls y f.1 in
    (rw (append_assoc, e, ih.0) refl, rw (append_assoc, e, ih.1) refl)

-- ---- instructions in which none is nested

-- the instruction is found at the front of its bytes
abbrev IsFound : Instr → Type 0
IsFound i = (y : List ℕ) → FitsInstr i → known_front (op_of i) (rest_bytes i ++ y) ≡ Some (Plain i, y)

simple-found : (op : SimpleOp) (y : List ℕ) → simple_front op (simple_rest op ++ y) ≡ Some (Plain (Simple op), y)
simple-found MemorySize y = refl
simple-found MemoryGrow y = refl
simple-found _ y = refl

table-found : (default : ℕ) (ls : List ℕ) → IsFound (BrTable default ls)
table-found default ls y f =
    let c = number-found (length ls) (flat_map unsigned_bytes ls ++ (unsigned_bytes default ++ y)) f.0.0 in
    let l = labels-found ls (unsigned_bytes default ++ y) f.0.1 in
    rw (append_assoc, append_assoc, c, l.1, number-found default y f.1, l.0) refl

instr-found : (i : Instr) → IsFound i
instr-found (Simple op) y f = simple-found op y
instr-found (Index op n) y f = rw (number-found n y f) refl
instr-found (Mem op arg) y f =
    rw (append_assoc, number-found arg.align (unsigned_bytes arg.offset ++ y) f.0, number-found arg.offset y f.1) refl
instr-found (BrTable default ls) y f = table-found default ls y f
instr-found (CallIndirect ty) y f = rw (append_assoc, number-found ty (0x00 ∷ y) f) refl
instr-found (I32Const n) y f = rw (integer-found 32 n y f) refl
instr-found (I64Const n) y f = rw (integer-found 64 n y f) refl

-- ---- block types

-- no other block type has this first byte
abbrev IsLong : ℕ → Type 0
IsLong b = (nat_eq b 0x40 ≡ false) × (nat_eq b 0x7F ≡ false) × (nat_eq b 0x7E ≡ false)

not-short : (b : ℕ) → (b < 64) ⊎ (128 ≤ b) → IsLong b
not-short b (inl lt) = (
  ne_eqb b 0x40 (λ e. omega (arith, e)),
  ne_eqb b 0x7F (λ e. omega (arith, e)),
  ne_eqb b 0x7E (λ e. omega (arith, e)),
)
not-short b (inr le) = (
  ne_eqb b 0x40 (λ e. omega (arith, e)),
  ne_eqb b 0x7F (λ e. omega (arith, e)),
  ne_eqb b 0x7E (λ e. omega (arith, e)),
)

index-found : (i : ℕ) (y : List ℕ) → Fits32 i → block_type_front (signed_bytes (pos i) ++ y) ≡ Some
    (block_types.Index i, y)
index-found i y f =
    let b = signed_bytes-begin i in
    let long = not-short b.0 b.3 in
    let found : signed_front 33 (signed_bytes (pos i) ++ y) ≡ Some (pos i, y) =
    integer-found 33 (pos i) y (omega (arith, ints), omega (arith, ints)) in
    let is = b.2 in
    let at_front : signed_front 33 (b.0 ∷ (b.1 ++ y)) ≡ Some (pos i, y) = rw is at found in
    rw (b.2, long.0, long.1, long.2, at_front) refl

block_type-found : (t : BlockType) (y : List ℕ) → FitsBlockType t
    → block_type_front (block_type_bytes t ++ y) ≡ Some (t, y)
block_type-found block_types.Empty y f = refl
block_type-found (block_types.Value I32) y f = refl
block_type-found (block_types.Value I64) y f = refl
block_type-found (block_types.Index i) y f = index-found i y f

-- ---- entries

begin-found : (kind : Kind) (t : BlockType) (y : List ℕ) → FitsBlockType t
    → begin_front kind (block_type_bytes t ++ y) ≡ Some (Begin kind t, y)
begin-found kind t y f = rw (block_type-found t y f) refl

else-front : (y : List ℕ) → meant_front (meaning 0x05) 0x05 y ≡ Some (Else, y)
unfolding meaning
else-front y = refl

end-front : (y : List ℕ) → meant_front (meaning 0x0B) 0x0B y ≡ Some (End, y)
unfolding meaning
end-front y = refl

pub entry-found : (e : Entry) (y : List ℕ) → FitsEntry e → entry_front (entry_bytes e ++ y) ≡ Some (e, y)
unfolding entry_front
entry-found (Plain i) y f = rw (row-meaning (op_of i)) (instr-found i y f)
entry-found (Begin Block t) y f = rw (row-meaning ops.Block) (begin-found Block t y f)
entry-found (Begin Loop t) y f = rw (row-meaning ops.Loop) (begin-found Loop t y f)
entry-found (Begin If t) y f = rw (row-meaning ops.If) (begin-found If t y f)
entry-found Else y f = else-front y
entry-found End y f = end-front y

-- whatever the table of opcodes allows of the first byte
pub meant-first : (x : List ℕ) (b : ℕ) (rest : List ℕ) (m : OpByte) → x ≡ b ∷ rest → IsOpByte b m
    → meant_front m b rest ≡ entry_front x
unfolding entry_front
meant-first x b rest m e h = rw (e, meant b m h) refl

-- ---- rows of entries

pub has-byte : (e : Entry) → 1 ≤ length (entry_bytes e)
has-byte (Plain i) = omega arith
has-byte (Begin Block t) = omega arith
has-byte (Begin Loop t) = omega arith
has-byte (Begin If t) = omega arith
has-byte Else = omega arith
has-byte End = omega arith

nothing-within : (k : ℕ) → unpacked_within (suc k) [] ≡ []
unfolding entry_front
nothing-within k = refl

within-packed : (k : ℕ) (es : List Entry) → AllByRecursion FitsEntry es → length (packed es) ≤ k
    → unpacked_within k (packed es) ≡ es
within-packed zero [] f le = refl
within-packed (suc k) [] f le = nothing-within k
within-packed zero (e ∷ es) f le =
    absurd (omega (arith, has-byte e, length-append (entry_bytes e) (packed es)))
within-packed (suc k) (e ∷ es) f le =
    let few : length (packed es) ≤ k = omega (arith, has-byte e, length-append (entry_bytes e) (packed es)) in
    rw (entry-found e (packed es) f.0, within-packed k es f.1 few) refl

pub unpacked-packed : (es : List Entry) → AllByRecursion FitsEntry es → unpacked (packed es) ≡ es
unfolding unpacked
unpacked-packed es f = within-packed (length (packed es)) es f (omega arith)
