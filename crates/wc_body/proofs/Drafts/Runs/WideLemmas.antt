-- Instructions of one integer in any spelling: the table of them, and what is noted and put of one.
use Rattle.std.proofs.Common.{◌≡◌, ℕ, zero, suc, ◌+◌, ◌-◌, ◌*◌, ◌^◌, ◌<◌, ◌≤◌, ℤ, pos, negsuc, ◌≤ℤ◌, true, false, max}
use Rattle.std.proofs.Common.{min}
use Rattle.std.proofs.Common.{List, [], ◌∷◌, get_or, take, refl, ap, ◌∙◌, arith, add-zero}
use Rattle.std.proofs.Common.{zero-add, bit_and}
use Rattle.std.proofs.lemmas.Int.{ints}
use Rattle.std.proofs.lemmas.List.{length-take-le}
use Rattle.std.proofs.lemmas.Nat.{and_mask}
use Rattle.wc_leb128.specs.Standard.Integers.{S}
use Rattle.wc_leb128.specs.Standard.Shortest.{HoldsSigned}
use Rattle.wc_leb128.specs.Reading.Eight.{groups}
use Rattle.wc_leb128.specs.Reading.Respelled.{IsRespelled}
use Rattle.wc_leb128.proofs.Words.EightFront.{signed-spelled}
use Rattle.wc_leb128.proofs.Anew.Unsigned.{unsigned-spelled}
use Rattle.wc_ops.specs.declared.op.Op.{Op}
use Rattle.wc_ops.specs.declared.op.Op.TheVariants as ops
use Rattle.wc_ops.specs.declared.op.OpByte.{OpByte}
use Rattle.wc_ops.specs.declared.op.OpByte.TheVariants.{Known, Float, Unknown}
use Rattle.wc_ops.specs.declared.op.IndexOp.{IndexOp}
use Rattle.wc_ops.specs.declared.op.IndexOp.TheVariants.{Br, BrIf, Call, LocalGet, LocalSet, LocalTee, GlobalGet}
use Rattle.wc_ops.specs.declared.op.IndexOp.TheVariants.{GlobalSet}
use Rattle.wc_ops.specs.Standard.ByteMeaning.{IsOpByte}
use Rattle.wc_ops.specs.Standard.Opcodes.{row}
use Rattle.wc_ops.specs.Reading.OpcodeMeaning.{meaning}
use Rattle.wc_ops.proofs.Meanings.OfBytes.{meaning-is}
use Rattle.wc_body.specs.declared.instr.Instr.{Instr}
use Rattle.wc_body.specs.declared.instr.Instr.TheVariants.{Index, I32Const, I64Const}
use Rattle.wc_body.specs.declared.runs.wide.Wide.{Wide}
use Rattle.wc_body.specs.declared.runs.wide.TheConstants.{ROWS, LOCAL, GLOBAL, CALL, CONST_32, CONST_64}
use Rattle.wc_body.specs.declared.needs.Needs.{Needs}
use Rattle.wc_body.specs.Standard.InstructionBytes.{instr_bytes, FitsInstr}
use Rattle.wc_body.specs.Standard.Needed.{enough, with_index, with_instr}
use Rattle.wc_body.specs.Drafting.FreeEntries.{IsFree}
use Rattle.wc_body.specs.Drafting.WideRows.{wide_at, meant_wide, op_wide, index_wide, with_wide, AsksForNone, IsOfRow}

-- ---- the table

-- so many rows, from this byte on
rows_from : ℕ → ℕ → List Wide
rows_from b zero = []
rows_from b (suc n) = wide_at b ∷ rows_from (suc b) n

table-is : rows_from 0 256 ≡ ROWS
unfolding meaning wide_at rows_from
table-is = refl

row-from : (b n i : ℕ) (d : Wide) → i < n → get_or (rows_from b n) i d ≡ wide_at (b + i)
unfolding rows_from
row-from b zero i d lt = absurd (omega arith)
row-from b (suc n) zero d lt = rw add-zero refl
row-from b (suc n) (suc i) d lt =
    let same : suc b + i ≡ b + suc i = omega arith in
    row-from (suc b) n i d (omega (arith, lt)) ∙ ap wide_at same

pub row-is : (b : ℕ) (d : Wide) → b < 256 → get_or ROWS b d ≡ wide_at b
row-is b d lt = rw table-is at (row-from 0 256 b d lt) ∙ ap wide_at (zero-add b)

-- ---- one instruction

-- these needs are those of an instruction of such a row and this integer
abbrev pub NotesWide : Needs → Needs → Wide → ℤ → Type 0
NotesWide s t r value =
    ((n : ℕ) → value ≡ pos n → n < 2 ^ 32 → t ≡ with_wide s r n) × (AsksForNone r → t ≡ s)

-- these bytes are an instruction of this opcode, which was spelled by those, and needs so much
abbrev pub IsEntry : ℕ → Wide → ℤ → List ℕ → List ℕ → Type 0
IsEntry a r value x y =
    (i : Instr) × (a ∷ y ≡ instr_bytes i) × FitsInstr i × IsFree i (a ∷ x)
    × ((k : ℕ) (s t : Needs) → NotesWide s t r value → t ≡ with_instr s k i)

-- all bits count, or none do
all-count : (m : ℕ) → m < 2 ^ 32 → bit_and m 4294967295 ≡ m
all-count m lt = omega (arith, and_mask m 32, lt)

none-count : (a m : ℕ) → max a (bit_and m 0) ≡ a
none-count a m = omega (arith, and_mask m 0)

-- one maximum is noted, and no other
module _ (s : Needs) (n : ℕ) (lt : n < 2 ^ 32) where
  counted : (a : ℕ) → max a (bit_and (min (n + 1) (2 ^ 32 - 1)) 4294967295) ≡ enough a n
  counted a = let all = all-count (min (n + 1) (2 ^ 32 - 1)) (omega arith) in omega (arith, all, lt)

  locals-wide : with_wide s LOCAL n ≡ record s { locals = enough s.locals n }
  locals-wide =
      let m = min (n + 1) (2 ^ 32 - 1) in
      rw (counted s.locals, none-count s.globals m, none-count s.funcs m) refl

  globals-wide : with_wide s GLOBAL n ≡ record s { globals = enough s.globals n }
  globals-wide =
      let m = min (n + 1) (2 ^ 32 - 1) in
      rw (counted s.globals, none-count s.locals m, none-count s.funcs m) refl

  funcs-wide : with_wide s CALL n ≡ record s { funcs = enough s.funcs n }
  funcs-wide =
      let m = min (n + 1) (2 ^ 32 - 1) in
      rw (counted s.funcs, none-count s.globals m, none-count s.locals m) refl

module _ (x : List ℕ) (value : ℤ) (count l : ℕ) (y : List ℕ) where
  index-entry : (op : IndexOp) → IsRespelled false x value count l y → count ≤ 5 → value ≤ℤ pos 4294967295
      → ((k : ℕ) (s : Needs) (n : ℕ) → n < 2 ^ 32 → with_wide s (index_wide op) n ≡ with_index s k op n)
      → IsEntry (row (ops.Index op)).byte (index_wide op) value (take count x) (take l y)
  index-entry op h few most noted =
      let n = groups (take count x) in
      let is : value ≡ pos n = h.is in
      let lt : n < 2 ^ 32 = omega (arith, ints, is, most) in
      let long = length-take-le count x h.enough in
      let spelled = unsigned-spelled 32 (take count x) h.whole (omega (arith, long, few)) lt in (
        Index op n,
        ap (λ (z : List ℕ). (row (ops.Index op)).byte ∷ z) h.shortest,
        lt,
        (take count x, refl, spelled),
        λ k s t h. h.0 n is lt ∙ noted k s n lt,
      )

  pub signed-own : (N : ℕ) → IsRespelled true x value count l y → 7 * count < N + 7 → HoldsSigned N value
      → S N (take count x) value
  signed-own N h few holds =
      let long = length-take-le count x h.enough in
      rw (h.is) (signed-spelled N (take count x) h.whole (omega (arith, long, few)) (rw h.is at holds))

  constant-32 : IsRespelled true x value count l y → count ≤ 5 → negsuc 2147483647 ≤ℤ value → value ≤ℤ pos 2147483647
      → IsEntry 0x41 CONST_32 value (take count x) (take l y)
  constant-32 h few least most =
      let holds : HoldsSigned 32 value = (omega (arith, ints, least), omega (arith, ints, most)) in (
        I32Const value,
        ap (λ (z : List ℕ). 0x41 ∷ z) h.shortest,
        holds,
        (take count x, refl, signed-own 32 h (omega (arith, few)) holds),
        λ k s t h. h.1 (refl, refl, refl),
      )

  constant-64 : IsRespelled true x value count l y → negsuc 9223372036854775807 ≤ℤ value
      → value ≤ℤ pos 9223372036854775807
      → IsEntry 0x42 CONST_64 value (take count x) (take l y)
  constant-64 h least most =
      let holds : HoldsSigned 64 value = (omega (arith, ints, least), omega (arith, ints, most)) in
      let few = h.few in (
        I64Const value,
        ap (λ (z : List ℕ). 0x42 ∷ z) h.shortest,
        holds,
        (take count x, refl, signed-own 64 h (omega (arith, few)) holds),
        λ k s t h. h.1 (refl, refl, refl),
      )

  -- what the row of an opcode says of an instruction
  abbrev Entered : Op → Type 0
  Entered op = IsEntry (row op).byte (op_wide op) value (take count x) (take l y)

  op-entry : (op : Op) → 0 < (op_wide op).longest → IsRespelled (op_wide op).signed x value count l y
      → count ≤ (op_wide op).longest → (op_wide op).least ≤ℤ value → value ≤ℤ (op_wide op).most → Entered op
  op-entry (ops.Index LocalGet) some h few least most =
      index-entry LocalGet h few most (λ k s n lt. locals-wide s n lt)
  op-entry (ops.Index LocalSet) some h few least most =
      index-entry LocalSet h few most (λ k s n lt. locals-wide s n lt)
  op-entry (ops.Index LocalTee) some h few least most =
      index-entry LocalTee h few most (λ k s n lt. locals-wide s n lt)
  op-entry (ops.Index GlobalGet) some h few least most =
      index-entry GlobalGet h few most (λ k s n lt. globals-wide s n lt)
  op-entry (ops.Index Call) some h few least most = index-entry Call h few most (λ k s n lt. funcs-wide s n lt)
  op-entry (ops.Index Br) some h few least most = absurd (omega (arith, some))
  op-entry (ops.Index BrIf) some h few least most = absurd (omega (arith, some))
  op-entry (ops.Index GlobalSet) some h few least most = absurd (omega (arith, some))
  op-entry ops.I32Const some h few least most = constant-32 h few least most
  op-entry ops.I64Const some h few least most = constant-64 h least most
  op-entry (ops.Simple op) some h few least most = absurd (omega (arith, some))
  op-entry (ops.Mem op) some h few least most = absurd (omega (arith, some))
  op-entry ops.BrTable some h few least most = absurd (omega (arith, some))
  op-entry ops.CallIndirect some h few least most = absurd (omega (arith, some))
  op-entry ops.Block some h few least most = absurd (omega (arith, some))
  op-entry ops.Loop some h few least most = absurd (omega (arith, some))
  op-entry ops.If some h few least most = absurd (omega (arith, some))

  meant-entry : (a : ℕ) (m : OpByte) → IsOpByte a m → (r : Wide) → r ≡ meant_wide m → 0 < r.longest
      → IsRespelled r.signed x value count l y → count ≤ r.longest → r.least ≤ℤ value → value ≤ℤ r.most
      → IsEntry a r value (take count x) (take l y)
  meant-entry a (Known op) is r e some h few least most =
      let byte = (is.known op).0 refl in
      rw (e, ← byte) (op-entry op (rw e at some) (rw e at h) (rw e at few) (rw e at least) (rw e at most))
  meant-entry a Float is r e some h few least most = absurd (omega (arith, rw e at some))
  meant-entry a Unknown is r e some h few least most = absurd (omega (arith, rw e at some))

  pub wide-entry : (a : ℕ) (r : Wide) → r ≡ wide_at a → IsOfRow r x value count l y
      → IsEntry a r value (take count x) (take l y)
  unfolding wide_at
  wide-entry a r e h = meant-entry a (meaning a) (meaning-is a) r e h.some h.read h.few h.least h.most
