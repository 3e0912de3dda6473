-- The canonical bytes of what follows an opcode, by the form of its instruction.
use Rattle.std.proofs.Common.{◌≡◌, ℕ, ℤ, List, [], ◌∷◌, refl, sym, ap, subst}
use Rattle.wc_leb128.specs.Standard.Shortest.{HoldsSigned}
use Rattle.wc_leb128.specs.Writing.Bytes.{unsigned_bytes, signed_bytes}
use Rattle.wc_ops.specs.declared.op.Op.{Op}
use Rattle.wc_ops.specs.declared.op.Op.TheVariants as ops
use Rattle.wc_ops.specs.declared.op.SimpleOp.{SimpleOp}
use Rattle.wc_ops.specs.declared.op.SimpleOp.TheVariants.{MemorySize, MemoryGrow}
use Rattle.wc_ops.specs.declared.op.IndexOp.{IndexOp}
use Rattle.wc_ops.specs.declared.op.MemOp.{MemOp}
use Rattle.wc_body.specs.declared.instr.MemArg.{MemArg}
use Rattle.wc_body.specs.declared.instr.Instr.{Instr}
use Rattle.wc_body.specs.declared.instr.Instr.TheVariants.{Simple, Index, Mem, BrTable, CallIndirect, I32Const}
use Rattle.wc_body.specs.declared.instr.Instr.TheVariants.{I64Const}
use Rattle.wc_binary.specs.declared.fault.BinWhy.TheVariants.{ZeroByte}
use Rattle.wc_binary.specs.Standard.Phrase.{Phrase, signed}
use Rattle.wc_binary.specs.Standard.Values.{u32, vector}
use Rattle.wc_binary.specs.Standard.Instructions.{s32, s64, zero_byte, follows_simple, nothing_follows, follows}
use Rattle.wc_body.specs.Standard.ValueBytes.{vector_bytes, Fits32, FitsVector}
use Rattle.wc_binary.specs.Writing.Values.{Anything}
use Rattle.wc_body.specs.Standard.InstructionBytes.{op_of, rest_bytes, FitsInstr}
use Rattle.wc_binary.proofs.spelling.Judging.{HasBytes}
use Rattle.wc_binary.proofs.spelling.Phrases.{of, u32-writes, only-writes, vector-writes, made-writes}
use Rattle.wc_binary.proofs.spelling.Codes.{signed-writes, given-writes, pair-writes}

-- an instruction of this opcode whose parts fit
abbrev pub OfOp : Op → Instr → Type 0
OfOp op i = FitsInstr i × (op_of i ≡ op)

abbrev Writes : Op → Phrase Instr → Type 1
Writes op p = HasBytes (of p) (OfOp op) rest_bytes

-- ---- no immediate

simple-one : (op : SimpleOp) (i : Instr) → OfOp (ops.Simple op) i → i ≡ Simple op
simple-one op (Simple p) h = let e = h.1 in let same : p ≡ op = cc in ap (λ (q : SimpleOp). Simple q) same
simple-one op (Index p i) h = let e = h.1 in absurd cc
simple-one op (Mem p arg) h = let e = h.1 in absurd cc
simple-one op (BrTable default labels) h = let e = h.1 in absurd cc
simple-one op (CallIndirect ty) h = let e = h.1 in absurd cc
simple-one op (I32Const n) h = let e = h.1 in absurd cc
simple-one op (I64Const n) h = let e = h.1 in absurd cc

reserved-writes : HasBytes (of zero_byte) Anything (λ u. 0x00 ∷ [])
reserved-writes = only-writes 0x00 ZeroByte

simple-writes : (op : SimpleOp) → Writes (ops.Simple op) (follows_simple op)
simple-writes MemorySize =
    made-writes zero_byte Anything (λ u. 0x00 ∷ []) (λ u. Simple MemorySize) (OfOp (ops.Simple MemorySize)) rest_bytes
    reserved-writes (λ u f. (tt, refl)) (λ u. refl) (λ i f. (tt, simple-one MemorySize i f, tt))
simple-writes MemoryGrow =
    made-writes zero_byte Anything (λ u. 0x00 ∷ []) (λ u. Simple MemoryGrow) (OfOp (ops.Simple MemoryGrow)) rest_bytes
    reserved-writes (λ u f. (tt, refl)) (λ u. refl) (λ i f. (tt, simple-one MemoryGrow i f, tt))
simple-writes op = given-writes (Simple op) (OfOp (ops.Simple op)) rest_bytes (tt, refl) refl (simple-one op)

-- ---- an index

index-back : (op : IndexOp) (i : Instr) → OfOp (ops.Index op) i → (n : ℕ) × (i ≡ Index op n) × Fits32 n
index-back op (Simple p) h = let e = h.1 in absurd cc
index-back op (Index p n) h = let e = h.1 in let same : p ≡ op = cc in (n, ap (λ (q : IndexOp). Index q n) same, h.0)
index-back op (Mem p arg) h = let e = h.1 in absurd cc
index-back op (BrTable default labels) h = let e = h.1 in absurd cc
index-back op (CallIndirect ty) h = let e = h.1 in absurd cc
index-back op (I32Const n) h = let e = h.1 in absurd cc
index-back op (I64Const n) h = let e = h.1 in absurd cc

-- ---- an alignment and an offset

abbrev mem_arg : ℕ → ℕ → MemArg
mem_arg a b = record { align = a; offset = b }

memory-back : (op : MemOp) (i : Instr) → OfOp (ops.Mem op) i
    → (a : ℕ) × (b : ℕ) × (i ≡ Mem op (mem_arg a b)) × Fits32 a × Fits32 b
memory-back op (Simple p) h = let e = h.1 in absurd cc
memory-back op (Index p n) h = let e = h.1 in absurd cc
memory-back op (Mem p arg) h =
    let e = h.1 in
    let same : p ≡ op = cc in
    (arg.align, arg.offset, ap (λ (q : MemOp). Mem q arg) same, h.0.0, h.0.1)
memory-back op (BrTable default labels) h = let e = h.1 in absurd cc
memory-back op (CallIndirect ty) h = let e = h.1 in absurd cc
memory-back op (I32Const n) h = let e = h.1 in absurd cc
memory-back op (I64Const n) h = let e = h.1 in absurd cc

-- ---- the others

labels-back : (i : Instr) → OfOp ops.BrTable i
    → (labels : List ℕ) × (default : ℕ) × (i ≡ BrTable default labels) × FitsVector Fits32 labels × Fits32 default
labels-back (Simple p) h = let e = h.1 in absurd cc
labels-back (Index p n) h = let e = h.1 in absurd cc
labels-back (Mem p arg) h = let e = h.1 in absurd cc
labels-back (BrTable default labels) h = (labels, default, refl, h.0.0, h.0.1)
labels-back (CallIndirect ty) h = let e = h.1 in absurd cc
labels-back (I32Const n) h = let e = h.1 in absurd cc
labels-back (I64Const n) h = let e = h.1 in absurd cc

indirect-back : (i : Instr) → OfOp ops.CallIndirect i
    → (ty : ℕ) × (u : Unit {0}) × (i ≡ CallIndirect ty) × Fits32 ty × Unit {0}
indirect-back (Simple p) h = let e = h.1 in absurd cc
indirect-back (Index p n) h = let e = h.1 in absurd cc
indirect-back (Mem p arg) h = let e = h.1 in absurd cc
indirect-back (BrTable default labels) h = let e = h.1 in absurd cc
indirect-back (CallIndirect ty) h = (ty, tt, refl, h.0, tt)
indirect-back (I32Const n) h = let e = h.1 in absurd cc
indirect-back (I64Const n) h = let e = h.1 in absurd cc

word-back : (i : Instr) → OfOp ops.I32Const i → (n : ℤ) × (i ≡ I32Const n) × HoldsSigned 32 n
word-back (Simple p) h = let e = h.1 in absurd cc
word-back (Index p n) h = let e = h.1 in absurd cc
word-back (Mem p arg) h = let e = h.1 in absurd cc
word-back (BrTable default labels) h = let e = h.1 in absurd cc
word-back (CallIndirect ty) h = let e = h.1 in absurd cc
word-back (I32Const n) h = (n, refl, h.0)
word-back (I64Const n) h = let e = h.1 in absurd cc

double-back : (i : Instr) → OfOp ops.I64Const i → (n : ℤ) × (i ≡ I64Const n) × HoldsSigned 64 n
double-back (Simple p) h = let e = h.1 in absurd cc
double-back (Index p n) h = let e = h.1 in absurd cc
double-back (Mem p arg) h = let e = h.1 in absurd cc
double-back (BrTable default labels) h = let e = h.1 in absurd cc
double-back (CallIndirect ty) h = let e = h.1 in absurd cc
double-back (I32Const n) h = let e = h.1 in absurd cc
double-back (I64Const n) h = (n, refl, h.0)

-- is it an instruction in which others are nested
abbrev IsNesting : Op → Type 0
IsNesting (ops.Simple op) = ⊥
IsNesting (ops.Index op) = ⊥
IsNesting (ops.Mem op) = ⊥
IsNesting ops.BrTable = ⊥
IsNesting ops.CallIndirect = ⊥
IsNesting ops.I32Const = ⊥
IsNesting ops.I64Const = ⊥
IsNesting ops.Block = Unit {0}
IsNesting ops.Loop = Unit {0}
IsNesting ops.If = Unit {0}

not-nesting : (i : Instr) → IsNesting (op_of i) → ⊥
not-nesting (Simple p) h = h
not-nesting (Index p n) h = h
not-nesting (Mem p arg) h = h
not-nesting (BrTable default labels) h = h
not-nesting (CallIndirect ty) h = h
not-nesting (I32Const n) h = h
not-nesting (I64Const n) h = h

nothing-writes : (op : Op) → IsNesting op → Writes op nothing_follows
nothing-writes op n = record {
  written = λ i f. absurd (not-nesting i (subst IsNesting (sym f.1) n));
  told = λ s V j b i h. let e = h.2 in absurd cc;
}

-- what follows each opcode
pub follows-writes : (op : Op) → HasBytes (of (follows op)) (OfOp op) rest_bytes
unfolding follows s32 s64
follows-writes (ops.Simple op) = simple-writes op
follows-writes (ops.Index op) =
    made-writes u32 Fits32 unsigned_bytes (λ n. Index op n) (OfOp (ops.Index op)) rest_bytes
    u32-writes (λ n f. (f, refl)) (λ n. refl) (index-back op)
follows-writes (ops.Mem op) =
    pair-writes u32 u32 Fits32 Fits32 unsigned_bytes unsigned_bytes (λ a b. Mem op (mem_arg a b))
    (OfOp (ops.Mem op)) rest_bytes u32-writes u32-writes
    (λ a b f g. ((f, g), refl)) (λ a b. refl) (memory-back op)
follows-writes ops.BrTable =
    pair-writes (vector u32) u32 (FitsVector Fits32) Fits32 (vector_bytes unsigned_bytes) unsigned_bytes
    (λ labels default. BrTable default labels) (OfOp ops.BrTable) rest_bytes
    (vector-writes u32 Fits32 unsigned_bytes u32-writes) u32-writes
    (λ labels default f g. ((f, g), refl)) (λ labels default. refl) labels-back
follows-writes ops.CallIndirect =
    pair-writes u32 zero_byte Fits32 Anything unsigned_bytes (λ u. 0x00 ∷ []) (λ ty u. CallIndirect ty)
    (OfOp ops.CallIndirect) rest_bytes
    u32-writes reserved-writes (λ ty u f g. (f, refl)) (λ ty u. refl) indirect-back
follows-writes ops.I32Const =
    made-writes (signed 32) (HoldsSigned 32) signed_bytes (λ n. I32Const n) (OfOp ops.I32Const) rest_bytes
    (signed-writes 32) (λ n f. (f, refl)) (λ n. refl) word-back
follows-writes ops.I64Const =
    made-writes (signed 64) (HoldsSigned 64) signed_bytes (λ n. I64Const n) (OfOp ops.I64Const) rest_bytes
    (signed-writes 64) (λ n f. (f, refl)) (λ n. refl) double-back
follows-writes ops.Block = nothing-writes ops.Block tt
follows-writes ops.Loop = nothing-writes ops.Loop tt
follows-writes ops.If = nothing-writes ops.If tt
