-- Instructions of one integer: the one that bytes begin with.
use Rattle.std.proofs.Common.{◌≡◌, ℕ, ◌^◌, ◌<◌, ◌≤◌, ℤ, pos, negsuc, ◌≤ℤ◌, true, false, List, ◌∷◌, ◌++◌}
use Rattle.std.proofs.Common.{Some, take, drop, refl, arith}
use Rattle.std.proofs.lemmas.Int.{ints}
use Rattle.std.proofs.lemmas.List.{length-take-le, take-append-drop}
use Rattle.wc_leb128.specs.Standard.Shortest.{HoldsSigned}
use Rattle.wc_leb128.specs.Reading.Eight.{groups}
use Rattle.wc_leb128.specs.Reading.Respelled.{IsRespelled}
use Rattle.wc_leb128.proofs.Anew.Unsigned.{unsigned-spelled}
use Rattle.wc_ops.specs.declared.op.Op.{Op}
use Rattle.wc_ops.specs.declared.op.Op.TheVariants as ops
use Rattle.wc_ops.specs.declared.op.OpByte.{OpByte}
use Rattle.wc_ops.specs.declared.op.OpByte.TheVariants.{Known, Float, Unknown}
use Rattle.wc_ops.specs.declared.op.IndexOp.{IndexOp}
use Rattle.wc_ops.specs.declared.op.IndexOp.TheVariants.{Br, BrIf, Call, LocalGet, LocalSet, LocalTee, GlobalGet}
use Rattle.wc_ops.specs.declared.op.IndexOp.TheVariants.{GlobalSet}
use Rattle.wc_ops.specs.Reading.OpcodeMeaning.{meaning}
use Rattle.wc_body.specs.declared.instr.Instr.{Instr}
use Rattle.wc_body.specs.declared.instr.Instr.TheVariants.{Index, I32Const, I64Const}
use Rattle.wc_body.specs.declared.entry.Entry.TheVariants.{Plain}
use Rattle.wc_body.specs.declared.runs.wide.Wide.{Wide}
use Rattle.wc_body.specs.Standard.Walks.Numbered.{meant_instr}
use Rattle.wc_body.specs.Reading.Fronts.{unsigned_front, signed_front, meant_front, entry_front}
use Rattle.wc_body.specs.Reading.Numbering.{BeginsNumbered}
use Rattle.wc_body.specs.Drafting.WideRows.{wide_at, meant_wide, op_wide, IsOfRow}
use Rattle.wc_body.proofs.Packing.Integers.{unsigned-found, signed-found}
use Rattle.wc_body.proofs.Drafts.Runs.WideLemmas.{signed-own}

module _ (a : ℕ) (x : List ℕ) (value : ℤ) (count l : ℕ) (y : List ℕ) where
  -- the instruction of this meaning and this integer is found, and the bytes behind the integer follow it
  abbrev Begins : OpByte → Type 0
  Begins m = (i : Instr) × (meant_instr m value ≡ Some i) × (meant_front m a x ≡ Some (Plain i, drop count x))

  -- behind these bytes of the integer
  behind : take count x ++ drop count x ≡ x
  behind = take-append-drop count x

  index-begins : (op : IndexOp) → IsRespelled false x value count l y → count ≤ 5 → value ≤ℤ pos 4294967295
      → Begins (Known (ops.Index op))
  index-begins op h few most =
      let n = groups (take count x) in
      let is : value ≡ pos n = h.is in
      let lt : n < 2 ^ 32 = omega (arith, ints, is, most) in
      let long = length-take-le count x h.enough in
      let spelled = unsigned-spelled 32 (take count x) h.whole (omega (arith, long, few)) lt in
      let found : unsigned_front 32 x ≡ Some (n, drop count x) =
      rw behind at (unsigned-found 32 (take count x) (drop count x) n spelled) in
      (Index op n, rw is refl, rw found refl)

  constant-32-begins : IsRespelled true x value count l y → count ≤ 5 → negsuc 2147483647 ≤ℤ value
      → value ≤ℤ pos 2147483647 → Begins (Known ops.I32Const)
  constant-32-begins h few least most =
      let holds : HoldsSigned 32 value = (omega (arith, ints, least), omega (arith, ints, most)) in
      let spelled = signed-own x value count l y 32 h (omega (arith, few)) holds in
      let found : signed_front 32 x ≡ Some (value, drop count x) =
      rw behind at (signed-found 32 (take count x) (drop count x) value spelled) in
      (I32Const value, refl, rw found refl)

  constant-64-begins : IsRespelled true x value count l y → negsuc 9223372036854775807 ≤ℤ value
      → value ≤ℤ pos 9223372036854775807 → Begins (Known ops.I64Const)
  constant-64-begins h least most =
      let holds : HoldsSigned 64 value = (omega (arith, ints, least), omega (arith, ints, most)) in
      let few = h.few in
      let spelled = signed-own x value count l y 64 h (omega (arith, few)) holds in
      let found : signed_front 64 x ≡ Some (value, drop count x) =
      rw behind at (signed-found 64 (take count x) (drop count x) value spelled) in
      (I64Const value, refl, rw found refl)

  op-begins : (op : Op) → 0 < (op_wide op).longest → IsRespelled (op_wide op).signed x value count l y
      → count ≤ (op_wide op).longest → (op_wide op).least ≤ℤ value → value ≤ℤ (op_wide op).most → Begins (Known op)
  op-begins (ops.Index LocalGet) some h few least most = index-begins LocalGet h few most
  op-begins (ops.Index LocalSet) some h few least most = index-begins LocalSet h few most
  op-begins (ops.Index LocalTee) some h few least most = index-begins LocalTee h few most
  op-begins (ops.Index GlobalGet) some h few least most = index-begins GlobalGet h few most
  op-begins (ops.Index Call) some h few least most = index-begins Call h few most
  op-begins (ops.Index Br) some h few least most = absurd (omega (arith, some))
  op-begins (ops.Index BrIf) some h few least most = absurd (omega (arith, some))
  op-begins (ops.Index GlobalSet) some h few least most = absurd (omega (arith, some))
  op-begins ops.I32Const some h few least most = constant-32-begins h few least most
  op-begins ops.I64Const some h few least most = constant-64-begins h least most
  op-begins (ops.Simple op) some h few least most = absurd (omega (arith, some))
  op-begins (ops.Mem op) some h few least most = absurd (omega (arith, some))
  op-begins ops.BrTable some h few least most = absurd (omega (arith, some))
  op-begins ops.CallIndirect some h few least most = absurd (omega (arith, some))
  op-begins ops.Block some h few least most = absurd (omega (arith, some))
  op-begins ops.Loop some h few least most = absurd (omega (arith, some))
  op-begins ops.If some h few least most = absurd (omega (arith, some))

  meant-begins : (m : OpByte) (r : Wide) → r ≡ meant_wide m → IsOfRow r x value count l y → Begins m
  meant-begins (Known op) r e h =
      op-begins op (rw e at h.some) (rw e at h.read) (rw e at h.few) (rw e at h.least) (rw e at h.most)
  meant-begins Float r e h = absurd (omega (arith, rw e at h.some))
  meant-begins Unknown r e h = absurd (omega (arith, rw e at h.some))

  pub numbered-begins : (r : Wide) → r ≡ wide_at a → IsOfRow r x value count l y
      → BeginsNumbered (record { opcode = a; number = value }) (a ∷ x) (drop count x)
  unfolding wide_at entry_front
  numbered-begins r e h =
      let begun = meant-begins (meaning a) r e h in
      record { instr = begun.0; said = begun.1; front = begun.2 }
