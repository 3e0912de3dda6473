-- Brief entries: the table of what they are like, and the entry that bytes begin with.
use Rattle.std.specs.Prelude.{None, if◌then◌else◌}
use Rattle.std.proofs.Common.{◌≡◌, ℕ, zero, suc, ◌+◌, ◌%◌, ◌<◌, ◌≤◌, ◌==◌, Bool, true, false, List, [], ◌∷◌, Some, inl}
use Rattle.std.proofs.Common.{inr, length, get_or, drop, bit_and, bit_or, refl, ap, ◌∙◌, arith, add-zero, zero-add}
use Rattle.std.proofs.lemmas.Bool.{cases_lt, lt-ltb, le-ltb, true≢false}
use Rattle.std.proofs.lemmas.Nat.{and_mask, or_comm, or_disjoint}
use Rattle.wc_leb128.specs.Standard.OneByte.{signed_in_one}
use Rattle.wc_leb128.proofs.Reading.OneByte.{unsigned_alone, signed_alone}
use Rattle.wc_ops.specs.declared.op.Op.{Op}
use Rattle.wc_ops.specs.declared.op.Op.TheVariants as ops
use Rattle.wc_ops.specs.declared.op.OpByte.{OpByte}
use Rattle.wc_ops.specs.declared.op.OpByte.TheVariants.{Known, Float, Unknown}
use Rattle.wc_ops.specs.declared.op.SimpleOp.{SimpleOp}
use Rattle.wc_ops.specs.declared.op.SimpleOp.TheVariants.{MemorySize, MemoryGrow}
use Rattle.wc_ops.specs.declared.op.IndexOp.{IndexOp}
use Rattle.wc_ops.specs.declared.op.MemOp.{MemOp}
use Rattle.wc_ops.specs.declared.op.MemOp.TheVariants.{I32Load}
use Rattle.wc_ops.specs.Standard.Opcodes.{memory}
use Rattle.wc_ops.specs.Reading.OpcodeMeaning.{meaning}
use Rattle.wc_body.specs.declared.walks.brief.Shape.{Shape}
use Rattle.wc_body.specs.declared.walks.brief.TheConstants.{SHAPES, OTHER, BARE}
use Rattle.wc_body.specs.declared.instr.Instr.TheVariants.{Simple, Index, Mem, I32Const, I64Const}
use Rattle.wc_body.specs.declared.instr.BlockType.TheVariants.{Empty}
use Rattle.wc_body.specs.declared.entry.Kind.TheVariants.{Block, Loop, If}
use Rattle.wc_body.specs.declared.entry.Entry.{Entry}
use Rattle.wc_body.specs.declared.entry.Entry.TheVariants.{Plain, Begin, Else, End}
use Rattle.wc_body.specs.Standard.Walks.Brief.{signed_byte, meant_entry, has_integer}
use Rattle.wc_body.specs.Reading.Briefly.{meant_shape, shape_at, BeginsWith}
use Rattle.wc_body.specs.Reading.Fronts.{unsigned_front, signed_front, found, meant_front, entry_front}
use Rattle.wc_body.proofs.Packing.Integers.{unsigned-found, signed-found}

-- ---- the table

-- so many rows, from this byte on
rows_from : ℕ → ℕ → List Shape
rows_from b zero = []
rows_from b (suc n) = shape_at b ∷ rows_from (suc b) n

table-is : rows_from 0 256 ≡ SHAPES
unfolding meaning shape_at rows_from
table-is = refl

row-from : (b n i : ℕ) (d : Shape) → i < n → get_or (rows_from b n) i d ≡ shape_at (b + i)
unfolding rows_from
row-from b zero i d lt = absurd (omega arith)
row-from b (suc n) zero d lt = rw add-zero refl
row-from b (suc n) (suc i) d lt =
    let same : suc b + i ≡ b + suc i = omega arith in
    row-from (suc b) n i d (omega (arith, lt)) ∙ ap shape_at same

pub row-is : (b : ℕ) (d : Shape) → b < 256 → get_or SHAPES b d ≡ shape_at b
row-is b d lt = rw table-is at (row-from 0 256 b d lt) ∙ ap shape_at (zero-add b)

-- ---- the integer

-- what is found of these two bytes
abbrev picked : Shape → ℕ → ℕ → ℕ
picked r b c = bit_or (bit_and b r.is_second) (bit_and c r.is_third)

no-bits : (b : ℕ) → bit_and b 0 ≡ 0
no-bits b = let m : bit_and b 0 ≡ b % 1 = and_mask b 0 in omega (arith, m)

all-bits : (b : ℕ) → b < 128 → bit_and b 255 ≡ b
all-bits b lt = let m : bit_and b 255 ≡ b % 256 = and_mask b 8 in omega (arith, m, lt)

or-none : (b : ℕ) → bit_or b 0 ≡ b
or-none b = let m : bit_or b 0 ≡ b + 0 = or_disjoint b 0 (no-bits b) in omega (arith, m)

neither : (b c n : ℕ) → n ≡ bit_or (bit_and b 0) (bit_and c 0) → n ≡ 0
neither b c n e = e ∙ rw (no-bits b, no-bits c) (or-none 0)

second : (b c n : ℕ) → b < 128 → n ≡ bit_or (bit_and b 255) (bit_and c 0) → n ≡ b
second b c n lt e = e ∙ rw (all-bits b lt, no-bits c) (or-none b)

third : (b c n : ℕ) → c < 128 → n ≡ bit_or (bit_and b 0) (bit_and c 255) → n ≡ c
third b c n lt e = e ∙ rw (no-bits b, all-bits c lt) (or_comm 0 c ∙ or-none c)

-- one byte that spells it
number-one : (b : ℕ) (y : List ℕ) → b < 128 → unsigned_front 32 (b ∷ y) ≡ Some (b, y)
number-one b y lt =
    unsigned-found 32 (b ∷ []) y b ((unsigned_alone 32 b b (omega arith)).0 (rw (lt-ltb b 128 lt) refl))

signed-is : (b : ℕ) → b < 128 → signed_in_one b ≡ Some (signed_byte b)
signed-is b lt = elim (cases_lt b 64) [
  | inl low ↦ rw (lt-ltb b 64 low) refl
  | inr high ↦ rw (le-ltb b 64 high) rw (lt-ltb b 128 lt) refl
]

signed-one : (N b : ℕ) (y : List ℕ) → 7 ≤ N → b < 128 → signed_front N (b ∷ y) ≡ Some (signed_byte b, y)
signed-one N b y le lt = signed-found N (b ∷ []) y (signed_byte b)
    ((signed_alone N b (signed_byte b) le).0 (signed-is b lt))

-- ---- the entry

-- the bytes behind an opcode are as this shape has them, and the integer among them is this one
abbrev IsLaid : Shape → List ℕ → ℕ → Type 0
IsLaid r y n =
    (r.least ≤ get_or y 0 128) × (get_or y 0 128 < r.second) × (get_or y 1 128 < r.third)
    × (n ≡ picked r (get_or y 0 128) (get_or y 1 128))

-- the entry of this opcode is found with this integer, by bytes that are there; where it has none, with zero
abbrev Begins : OpByte → ℕ → List ℕ → ℕ → Type 0
Begins m a y n =
    (e : Entry) × (meant_entry m a n ≡ Some e) × (meant_front m a y ≡ Some (e, drop (meant_shape m a).length (a ∷ y)))
    × (n < 128) × ((meant_shape m a).length ≤ suc (length y)) × (has_integer e ≡ false → n ≡ 0)

abbrev Laid : OpByte → Type 0
Laid m = (a : ℕ) (y : List ℕ) (n : ℕ) → IsLaid (meant_shape m a) y n → Begins m a y n

simple-begins : (op : SimpleOp) → Laid (Known (ops.Simple op))
simple-begins MemorySize a y n h = absurd (omega (arith, h.1))
simple-begins MemoryGrow a y n h = absurd (omega (arith, h.1))
simple-begins op a y n h =
    let none : n ≡ 0 = neither (get_or y 0 128) (get_or y 1 128) n h.3 in
    (Plain (Simple op), refl, refl, omega (arith, none), omega arith, λ bare. none)

index-begins : (op : IndexOp) → Laid (Known (ops.Index op))
index-begins op a [] n h = absurd (omega (arith, h.1))
index-begins op a (b ∷ z) n h =
    let same : n ≡ b = second b (get_or z 0 128) n h.1 h.3 in (
      Plain (Index op n),
      refl,
      rw (same, number-one b z h.1) refl,
      omega (arith, same, h.1),
      omega arith,
      λ bare. absurd (true≢false bare),
    )

-- no access is of more than 64 bits
width : (op : MemOp) → (memory op).alignment ≤ 3
width I32Load = omega arith
width _ = omega arith

access-begins : (op : MemOp) → Laid (Known (ops.Mem op))
access-begins op a [] n h = absurd (omega (arith, h.1, width op))
access-begins op a (b ∷ []) n h = absurd (omega (arith, h.2))
access-begins op a (b ∷ c ∷ z) n h =
    let align : (memory op).alignment ≡ b = omega (arith, h.0, h.1) in
    let low : b < 128 = omega (arith, h.1, width op) in
    let same : n ≡ c = third b c n h.2 h.3 in (
      Plain (Mem op record { align = (memory op).alignment; offset = n }),
      refl,
      rw (same, align, number-one b (c ∷ z) low, number-one c z h.2) refl,
      omega (arith, same, h.2),
      omega arith,
      λ bare. absurd (true≢false bare),
    )

i32-begins : Laid (Known ops.I32Const)
i32-begins a [] n h = absurd (omega (arith, h.1))
i32-begins a (b ∷ z) n h =
    let same : n ≡ b = second b (get_or z 0 128) n h.1 h.3 in
    let one : signed_front 32 (b ∷ z) ≡ Some (signed_byte b, z) = signed-one 32 b z (omega arith) h.1 in (
      Plain (I32Const (signed_byte n)),
      refl,
      rw (same, one) refl,
      omega (arith, same, h.1),
      omega arith,
      λ bare. absurd (true≢false bare),
    )

i64-begins : Laid (Known ops.I64Const)
i64-begins a [] n h = absurd (omega (arith, h.1))
i64-begins a (b ∷ z) n h =
    let same : n ≡ b = second b (get_or z 0 128) n h.1 h.3 in
    let one : signed_front 64 (b ∷ z) ≡ Some (signed_byte b, z) = signed-one 64 b z (omega arith) h.1 in (
      Plain (I64Const (signed_byte n)),
      refl,
      rw (same, one) refl,
      omega (arith, same, h.1),
      omega arith,
      λ bare. absurd (true≢false bare),
    )

-- what begins a block, with the empty type behind it
begin-type : (b : ℕ) → 0x40 ≤ b → b < 0x41 → b ≡ 0x40
begin-type b ge lt = omega (arith, ge, lt)

block-begins : Laid (Known ops.Block)
block-begins a [] n h = absurd (omega (arith, h.1))
block-begins a (b ∷ z) n h =
    let none : n ≡ 0 = neither b (get_or z 0 128) n h.3 in
    (Begin Block Empty, refl, rw (begin-type b h.0 h.1) refl, omega (arith, none), omega arith, λ bare. none)

loop-begins : Laid (Known ops.Loop)
loop-begins a [] n h = absurd (omega (arith, h.1))
loop-begins a (b ∷ z) n h =
    let none : n ≡ 0 = neither b (get_or z 0 128) n h.3 in
    (Begin Loop Empty, refl, rw (begin-type b h.0 h.1) refl, omega (arith, none), omega arith, λ bare. none)

if-begins : Laid (Known ops.If)
if-begins a [] n h = absurd (omega (arith, h.1))
if-begins a (b ∷ z) n h =
    let none : n ≡ 0 = neither b (get_or z 0 128) n h.3 in
    (Begin If Empty, refl, rw (begin-type b h.0 h.1) refl, omega (arith, none), omega arith, λ bare. none)

known-begins : (op : Op) → Laid (Known op)
known-begins (ops.Simple op) = simple-begins op
known-begins (ops.Index op) = index-begins op
known-begins (ops.Mem op) = access-begins op
known-begins ops.I32Const = i32-begins
known-begins ops.I64Const = i64-begins
known-begins ops.Block = block-begins
known-begins ops.Loop = loop-begins
known-begins ops.If = if-begins
known-begins ops.BrTable = λ a y n h. absurd (omega (arith, h.1))
known-begins ops.CallIndirect = λ a y n h. absurd (omega (arith, h.1))

-- which of two marks it is
abbrev mark_shape : Bool → Bool → Shape
mark_shape otherwise close = if otherwise then BARE else (if close then BARE else OTHER)

mark-begins : (otherwise close : Bool) (a : ℕ) (y : List ℕ) (n : ℕ) → IsLaid (mark_shape otherwise close) y n
    → (e : Entry) × ((if otherwise then Some Else else (if close then Some End else None)) ≡ Some e)
    × ((if otherwise then found Else y else (if close then found End y else None))
    ≡ Some (e, drop (mark_shape otherwise close).length (a ∷ y)))
    × (n < 128) × ((mark_shape otherwise close).length ≤ suc (length y)) × (has_integer e ≡ false → n ≡ 0)
mark-begins true close a y n h =
    let none : n ≡ 0 = neither (get_or y 0 128) (get_or y 1 128) n h.3 in
    (Else, refl, refl, omega (arith, none), omega arith, λ bare. none)
mark-begins false true a y n h =
    let none : n ≡ 0 = neither (get_or y 0 128) (get_or y 1 128) n h.3 in
    (End, refl, refl, omega (arith, none), omega arith, λ bare. none)
mark-begins false false a y n h = absurd (omega (arith, h.1))

meant-begins : (m : OpByte) → Laid m
meant-begins (Known op) a y n h = known-begins op a y n h
meant-begins Float a y n h = absurd (omega (arith, h.1))
meant-begins Unknown a y n h = mark-begins (a == 0x05) (a == 0x0B) a y n h

-- whatever the first three bytes are, where they are as the shape of the first one has them
pub brief-begins : (x : List ℕ) (r : Shape) (a b c : ℕ) → 0 < length x → a ≡ get_or x 0 128 → b ≡ get_or x 1 128
    → c ≡ get_or x 2 128 → r ≡ shape_at a → r.least ≤ b → b < r.second → c < r.third
    → BeginsWith (record { opcode = a; operand = picked r b c }) x (drop r.length x) × (r.length ≤ length x)
unfolding shape_at entry_front
brief-begins [] r a b c some first second third row least under last = absurd (omega (arith, some))
brief-begins (d ∷ y) r a b c some first second third row least under last =
    let shape : r ≡ shape_at d = rw first at row in
    let begun = meant-begins (meaning d) d y (picked (shape_at d) (get_or y 0 128) (get_or y 1 128))
    (rw (second, shape) at least, rw (second, shape) at under, rw (third, shape) at last, refl) in
    rw (first, second, third, shape)
    (record { entry = begun.0; said = begun.1; front = begun.2; low = begun.3; bare = begun.5 }, begun.4)
