-- Entries with two bytes for their index, constant or offset, and calls and accesses of globals: what is noted of one.
use Rattle.std.proofs.Common.{◌≡◌, ℕ, ◌+◌, ◌-◌, ◌*◌, ◌<◌, ◌≤◌, true, false, nat_lt, List, [], ◌∷◌}
use Rattle.std.proofs.Common.{inl, inr, ◌++◌, length, get_or, drop, refl, ap, ◌∙◌, arith}
use Rattle.std.proofs.Math.Bool.{or-false}
use Rattle.std.proofs.lemmas.Bool.Decides.{nat_tests}
use Rattle.wc_leb128.proofs.Writing.UnsignedShortest.{unsigned_bytes-low}
use Rattle.wc_ops.specs.declared.op.Op.{Op}
use Rattle.wc_ops.specs.declared.op.Op.TheVariants as ops
use Rattle.wc_ops.specs.declared.op.OpByte.{OpByte}
use Rattle.wc_ops.specs.declared.op.OpByte.TheVariants.{Known, Float, Unknown}
use Rattle.wc_ops.specs.declared.op.SimpleOp.TheVariants.{Nop, MemorySize, MemoryGrow}
use Rattle.wc_ops.specs.declared.op.IndexOp.{IndexOp}
use Rattle.wc_ops.specs.declared.op.IndexOp.TheVariants.{Br, BrIf, Call, LocalGet, LocalSet, LocalTee, GlobalGet}
use Rattle.wc_ops.specs.declared.op.IndexOp.TheVariants.{GlobalSet}
use Rattle.wc_ops.specs.declared.op.MemOp.{MemOp}
use Rattle.wc_ops.specs.Standard.ByteMeaning.{IsOpByte}
use Rattle.wc_ops.specs.Standard.Opcodes.{row, memory}
use Rattle.wc_ops.specs.Reading.OpcodeMeaning.{meaning}
use Rattle.wc_ops.proofs.Meanings.OfBytes.{meaning-is}
use Rattle.wc_body.specs.declared.instr.Instr.TheVariants.{Index, Mem, I32Const, I64Const}
use Rattle.wc_body.specs.declared.runs.light.LightNeeds.{LightNeeds}
use Rattle.wc_body.specs.declared.needs.Needs.{Needs}
use Rattle.wc_body.specs.Standard.Needed.{with_index}
use Rattle.wc_body.specs.Drafting.AtFront.{NotesInstr, AreLast}
use Rattle.wc_body.specs.Drafting.LightRows.{light_at, meant_light, op_light, with_noted}
use Rattle.wc_body.specs.Drafting.LightRows.{IsOuter, IsOuterAt, NotesOuter, IsConstantAt}
use Rattle.wc_body.proofs.Drafts.Runs.IntegerFronts.{signed-held, unsigned-two}
use Rattle.wc_body.proofs.Drafts.Runs.LightLemmas.{width}

-- ---- which opcode it is

-- it is a call or an access of a global
op-outer : (op : Op) → (op_light op).length ≡ 0 → IsOuterAt (row op).byte × ((op_light op).second ≡ 128)
op-outer (ops.Index Call) none = ((Call, tt, refl), refl)
op-outer (ops.Index GlobalGet) none = ((GlobalGet, tt, refl), refl)
op-outer (ops.Index GlobalSet) none = ((GlobalSet, tt, refl), refl)
op-outer (ops.Simple MemorySize) none = absurd (omega (arith, none))
op-outer (ops.Simple MemoryGrow) none = absurd (omega (arith, none))
op-outer (ops.Simple Nop) none = absurd (omega (arith, none))
op-outer (ops.Simple op) none = absurd (omega (arith, none))
op-outer (ops.Index Br) none = absurd (omega (arith, none))
op-outer (ops.Index BrIf) none = absurd (omega (arith, none))
op-outer (ops.Index LocalGet) none = absurd (omega (arith, none))
op-outer (ops.Index LocalSet) none = absurd (omega (arith, none))
op-outer (ops.Index LocalTee) none = absurd (omega (arith, none))
op-outer (ops.Mem op) none = absurd (omega (arith, none))
op-outer ops.I32Const none = absurd (omega (arith, none))
op-outer ops.I64Const none = absurd (omega (arith, none))
op-outer ops.BrTable none = absurd (omega (arith, none))
op-outer ops.CallIndirect none = absurd (omega (arith, none))
op-outer ops.Block none = absurd (omega (arith, none))
op-outer ops.Loop none = absurd (omega (arith, none))
op-outer ops.If none = absurd (omega (arith, none))

meant-outer : (a : ℕ) (m : OpByte) → IsOpByte a m → (meant_light m).length ≡ 0
    → IsOuterAt a × ((meant_light m).second ≡ 128)
meant-outer a (Known op) is none = let byte = (is.known op).0 refl in rw (← byte) (op-outer op none)
meant-outer a Float is none = absurd (omega (arith, none))
meant-outer a Unknown is none = absurd (omega (arith, none))

pub light-outer : (a : ℕ) → (light_at a).length ≡ 0 → IsOuterAt a × ((light_at a).second ≡ 128)
unfolding light_at
light-outer a none = meant-outer a (meaning a) (meaning-is a) none

-- it is a constant
op-constant : (op : Op) → (op_light op).length ≡ 2 → (op_light op).locals ≡ 0 → (op_light op).label ≡ 0
    → IsConstantAt (row op).byte × ((op_light op).second ≡ 128)
op-constant ops.I32Const two locals label = (inl refl, refl)
op-constant ops.I64Const two locals label = (inr refl, refl)
op-constant (ops.Simple MemorySize) two locals label = absurd (omega (arith, two))
op-constant (ops.Simple MemoryGrow) two locals label = absurd (omega (arith, two))
op-constant (ops.Simple Nop) two locals label = absurd (omega (arith, two))
op-constant (ops.Simple op) two locals label = absurd (omega (arith, two))
op-constant (ops.Index Call) two locals label = absurd (omega (arith, two))
op-constant (ops.Index GlobalGet) two locals label = absurd (omega (arith, two))
op-constant (ops.Index GlobalSet) two locals label = absurd (omega (arith, two))
op-constant (ops.Index Br) two locals label = absurd (omega (arith, label))
op-constant (ops.Index BrIf) two locals label = absurd (omega (arith, label))
op-constant (ops.Index LocalGet) two locals label = absurd (omega (arith, locals))
op-constant (ops.Index LocalSet) two locals label = absurd (omega (arith, locals))
op-constant (ops.Index LocalTee) two locals label = absurd (omega (arith, locals))
op-constant (ops.Mem op) two locals label = absurd (omega (arith, two))
op-constant ops.BrTable two locals label = absurd (omega (arith, two))
op-constant ops.CallIndirect two locals label = absurd (omega (arith, two))
op-constant ops.Block two locals label = absurd (omega (arith, two))
op-constant ops.Loop two locals label = absurd (omega (arith, two))
op-constant ops.If two locals label = absurd (omega (arith, two))

meant-constant : (a : ℕ) (m : OpByte) → IsOpByte a m → (meant_light m).length ≡ 2 → (meant_light m).locals ≡ 0
    → (meant_light m).label ≡ 0 → IsConstantAt a × ((meant_light m).second ≡ 128)
meant-constant a (Known op) is two locals label =
    let byte = (is.known op).0 refl in rw (← byte) (op-constant op two locals label)
meant-constant a Float is two locals label = absurd (omega (arith, two))
meant-constant a Unknown is two locals label = absurd (omega (arith, two))

pub light-constant : (a : ℕ) → (light_at a).length ≡ 2 → (light_at a).locals ≡ 0 → (light_at a).label ≡ 0
    → IsConstantAt a × ((light_at a).second ≡ 128)
unfolding light_at
light-constant a two locals label = meant-constant a (meaning a) (meaning-is a) two locals label

-- the row of an access bars what begins a longer offset, and no more
op-third : (op : Op) → (op_light op).length ≡ 3 → (op_light op).third ≡ 128
op-third (ops.Mem op) three = refl
op-third (ops.Simple MemorySize) three = absurd (omega (arith, three))
op-third (ops.Simple MemoryGrow) three = absurd (omega (arith, three))
op-third (ops.Simple Nop) three = absurd (omega (arith, three))
op-third (ops.Simple op) three = absurd (omega (arith, three))
op-third (ops.Index Call) three = absurd (omega (arith, three))
op-third (ops.Index GlobalGet) three = absurd (omega (arith, three))
op-third (ops.Index GlobalSet) three = absurd (omega (arith, three))
op-third (ops.Index Br) three = absurd (omega (arith, three))
op-third (ops.Index BrIf) three = absurd (omega (arith, three))
op-third (ops.Index LocalGet) three = absurd (omega (arith, three))
op-third (ops.Index LocalSet) three = absurd (omega (arith, three))
op-third (ops.Index LocalTee) three = absurd (omega (arith, three))
op-third ops.I32Const three = absurd (omega (arith, three))
op-third ops.I64Const three = absurd (omega (arith, three))
op-third ops.BrTable three = absurd (omega (arith, three))
op-third ops.CallIndirect three = absurd (omega (arith, three))
op-third ops.Block three = absurd (omega (arith, three))
op-third ops.Loop three = absurd (omega (arith, three))
op-third ops.If three = absurd (omega (arith, three))

meant-third : (m : OpByte) → (meant_light m).length ≡ 3 → (meant_light m).third ≡ 128
meant-third (Known op) three = op-third op three
meant-third Float three = absurd (omega (arith, three))
meant-third Unknown three = absurd (omega (arith, three))

pub light-third : (a : ℕ) → (light_at a).length ≡ 3 → (light_at a).third ≡ 128
unfolding light_at
light-third a three = meant-third (meaning a) three

-- ---- what is noted of a call or an access of a global

-- nothing of it is noted apart
outer-kept : (op : IndexOp) → IsOuter op → (m : LightNeeds) (s : Needs) (k n : ℕ)
    → with_noted m (with_index s k op n) ≡ with_index (with_noted m s) k op n
outer-kept Call outer m s k n = refl
outer-kept GlobalGet outer m s k n = refl
outer-kept GlobalSet outer m s k n = refl
outer-kept Br outer m s k n = absurd outer
outer-kept BrIf outer m s k n = absurd outer
outer-kept LocalGet outer m s k n = absurd outer
outer-kept LocalSet outer m s k n = absurd outer
outer-kept LocalTee outer m s k n = absurd outer

outer-needs : (op : IndexOp) → IsOuter op → (a n : ℕ) → (row (ops.Index op)).byte ≡ a → (m : LightNeeds) (s t : Needs)
    → NotesOuter a n s t → (k : ℕ) → with_noted m t ≡ with_index (with_noted m s) k op n
outer-needs op outer a n is m s t noted k = rw (noted op outer is k) (outer-kept op outer m s k n)

pub outer-noted : (x : List ℕ) (k : ℕ) (m : LightNeeds) (s t : Needs) → 3 ≤ length x → IsOuterAt (get_or x 0 0)
    → get_or x 1 0 < 128 → NotesOuter (get_or x 0 0) (get_or x 1 0) s t
    → NotesInstr k x (drop 2 x) (with_noted m s) (with_noted m t)
outer-noted [] k m s t le at_ low noted = absurd (omega arith)
outer-noted (a ∷ []) k m s t le at_ low noted = absurd (omega arith)
outer-noted (a ∷ b ∷ []) k m s t le at_ low noted = absurd (omega arith)
outer-noted (a ∷ b ∷ c ∷ y) k m s t le at_ low noted = (
  Index at_.0 b,
  rw (unsigned_bytes-low b low, at_.2) refl,
  omega (arith, low),
  outer-needs at_.0 at_.1 a b at_.2 m s t noted k,
)

pub long-outer-noted : (x : List ℕ) (k n : ℕ) (m : LightNeeds) (s t : Needs) → 3 ≤ length x
    → IsOuterAt (get_or x 0 0) → 128 ≤ get_or x 1 0 → get_or x 1 0 < 256 → (get_or x 2 0 ≡ 0 → ⊥)
    → get_or x 2 0 < 128 → n ≡ get_or x 1 0 - 128 + 128 * get_or x 2 0 → NotesOuter (get_or x 0 0) n s t
    → NotesInstr k x (drop 3 x) (with_noted m s) (with_noted m t)
long-outer-noted [] k n m s t le at_ high byte some low is noted = absurd (omega arith)
long-outer-noted (a ∷ []) k n m s t le at_ high byte some low is noted = absurd (omega arith)
long-outer-noted (a ∷ b ∷ []) k n m s t le at_ high byte some low is noted = absurd (omega arith)
long-outer-noted (a ∷ b ∷ c ∷ y) k n m s t le at_ high byte some low is noted =
    let two = unsigned-two (b ∷ c ∷ y) (c ∷ y) y b c n refl refl is high byte some low in (
      Index at_.0 n,
      ap (λ (q : List ℕ). a ∷ q) two.0 ∙ rw (← at_.2) refl,
      two.1,
      outer-needs at_.0 at_.1 a n at_.2 m s t noted k,
    )

-- ---- of a constant of two bytes

pub constant-noted : (x : List ℕ) (k : ℕ) (s : Needs) → 3 ≤ length x → IsConstantAt (get_or x 0 0)
    → AreLast (get_or x 1 0) (get_or x 2 0) → NotesInstr k x (drop 3 x) s s
constant-noted [] k s le at_ last = absurd (omega arith)
constant-noted (a ∷ []) k s le at_ last = absurd (omega arith)
constant-noted (a ∷ b ∷ []) k s le at_ last = absurd (omega arith)
constant-noted (a ∷ b ∷ c ∷ y) k s le (inl is) (sign, n, spelled, least, most) =
    let held = signed-held sign n (omega (arith, most)) in
    (I32Const _, rw is (ap (λ (q : List ℕ). 0x41 ∷ q ++ y) spelled), held.0, refl)
constant-noted (a ∷ b ∷ c ∷ y) k s le (inr is) (sign, n, spelled, least, most) =
    let held = signed-held sign n (omega (arith, most)) in
    (I64Const _, rw is (ap (λ (q : List ℕ). 0x42 ∷ q ++ y) spelled), held.1, refl)

-- ---- of an access whose offset has two bytes

module _ (k b c d n : ℕ) (y : List ℕ) (s : Needs) (high : 128 ≤ c) (byte : c < 256) (some : d ≡ 0 → ⊥) (low : d < 128)
    (is : n ≡ c - 128 + 128 * d)
  where
    abbrev IsFar : ℕ → Type 0
    IsFar a = NotesInstr k (a ∷ b ∷ c ∷ d ∷ y) y s (record s { memory = true })

    access-far : (op : MemOp) → b < (memory op).alignment + 1 → IsFar (row (ops.Mem op)).byte
    access-far op lt =
        let aligned : b < 128 = omega (arith, lt, width op) in
        let within : nat_lt (memory op).alignment b ≡ false = grind (arith, nat_tests, lt) in
        let two = unsigned-two (c ∷ d ∷ y) (d ∷ y) y c d n refl refl is high byte some low in (
          Mem op record { align = b; offset = n },
          rw (unsigned_bytes-low b aligned) (ap (λ (q : List ℕ). (row (ops.Mem op)).byte ∷ b ∷ q) two.0),
          (omega (arith, aligned), two.1),
          rw (within, or-false s.over_aligned) refl,
        )

    op-far : (op : Op) → b < (op_light op).second → (op_light op).length ≡ 3 → IsFar (row op).byte
    op-far (ops.Mem op) lt three = access-far op lt
    op-far (ops.Simple MemorySize) lt three = absurd (omega (arith, three))
    op-far (ops.Simple MemoryGrow) lt three = absurd (omega (arith, three))
    op-far (ops.Simple Nop) lt three = absurd (omega (arith, three))
    op-far (ops.Simple op) lt three = absurd (omega (arith, three))
    op-far (ops.Index Call) lt three = absurd (omega (arith, three))
    op-far (ops.Index GlobalGet) lt three = absurd (omega (arith, three))
    op-far (ops.Index GlobalSet) lt three = absurd (omega (arith, three))
    op-far (ops.Index Br) lt three = absurd (omega (arith, three))
    op-far (ops.Index BrIf) lt three = absurd (omega (arith, three))
    op-far (ops.Index LocalGet) lt three = absurd (omega (arith, three))
    op-far (ops.Index LocalSet) lt three = absurd (omega (arith, three))
    op-far (ops.Index LocalTee) lt three = absurd (omega (arith, three))
    op-far ops.I32Const lt three = absurd (omega (arith, three))
    op-far ops.I64Const lt three = absurd (omega (arith, three))
    op-far ops.BrTable lt three = absurd (omega (arith, three))
    op-far ops.CallIndirect lt three = absurd (omega (arith, three))
    op-far ops.Block lt three = absurd (omega (arith, three))
    op-far ops.Loop lt three = absurd (omega (arith, three))
    op-far ops.If lt three = absurd (omega (arith, three))

    meant-far : (a : ℕ) (m : OpByte) → IsOpByte a m → b < (meant_light m).second → (meant_light m).length ≡ 3 → IsFar a
    meant-far a (Known op) is lt three = let same = (is.known op).0 refl in rw (← same) (op-far op lt three)
    meant-far a Float is lt three = absurd (omega (arith, three))
    meant-far a Unknown is lt three = absurd (omega (arith, three))

pub far-noted : (x : List ℕ) (k n : ℕ) (s : Needs) → 4 ≤ length x → (light_at (get_or x 0 0)).length ≡ 3
    → get_or x 1 0 < (light_at (get_or x 0 0)).second → 128 ≤ get_or x 2 0 → get_or x 2 0 < 256
    → (get_or x 3 0 ≡ 0 → ⊥) → get_or x 3 0 < 128 → n ≡ get_or x 2 0 - 128 + 128 * get_or x 3 0
    → NotesInstr k x (drop 4 x) s (record s { memory = true })
unfolding light_at
far-noted [] k n s le three lt high byte some low is = absurd (omega arith)
far-noted (a ∷ []) k n s le three lt high byte some low is = absurd (omega arith)
far-noted (a ∷ b ∷ []) k n s le three lt high byte some low is = absurd (omega arith)
far-noted (a ∷ b ∷ c ∷ []) k n s le three lt high byte some low is = absurd (omega arith)
far-noted (a ∷ b ∷ c ∷ d ∷ y) k n s le three lt high byte some low is =
    meant-far k b c d n y s high byte some low is a (meaning a) (meaning-is a) lt three
