-- Instructions that are told before an integer of five bytes and more: an opcode alone, and two bytes.
use Rattle.std.proofs.Common.{◌≡◌, ℕ, ◌<◌, ◌≤◌, [], ◌∷◌, bit_and, refl}
use Rattle.std.proofs.Common.{arith}
use Rattle.std.proofs.lemmas.List.{append_cancel_right}
use Rattle.wc_ops.specs.declared.op.Op.{Op}
use Rattle.wc_ops.specs.declared.op.Op.TheVariants as ops
use Rattle.wc_ops.specs.declared.op.OpByte.{OpByte}
use Rattle.wc_ops.specs.declared.op.OpByte.TheVariants.{Known, Float, Unknown}
use Rattle.wc_ops.specs.declared.op.SimpleOp.{SimpleOp}
use Rattle.wc_ops.specs.declared.op.SimpleOp.TheVariants.{Nop, MemorySize, MemoryGrow}
use Rattle.wc_ops.specs.declared.op.IndexOp.TheVariants.{Br, BrIf, Call, LocalGet, LocalSet, LocalTee, GlobalGet}
use Rattle.wc_ops.specs.declared.op.IndexOp.TheVariants.{GlobalSet}
use Rattle.wc_ops.specs.Standard.ByteMeaning.{IsOpByte}
use Rattle.wc_ops.specs.Standard.Opcodes.{row}
use Rattle.wc_ops.specs.Reading.OpcodeMeaning.{meaning}
use Rattle.wc_ops.proofs.Meanings.OfBytes.{meaning-is}
use Rattle.wc_body.specs.declared.runs.light.Light.{Light}
use Rattle.wc_body.specs.declared.needs.Needs.{Needs}
use Rattle.wc_body.specs.Standard.InstructionBytes.{instr_bytes}
use Rattle.wc_body.specs.Drafting.FreeEntries.{IsAlone, NotesTwo}
use Rattle.wc_body.specs.Drafting.LightRows.{light_at, meant_light, op_light, with_light}
use Rattle.wc_body.proofs.Drafts.Runs.LightLemmas.{light-noted}

-- an opcode of which nothing follows
simple-alone : (op : SimpleOp) → (op_light (ops.Simple op)).length ≡ 1 → IsAlone (row (ops.Simple op)).byte
simple-alone MemorySize one = absurd (omega (arith, one))
simple-alone MemoryGrow one = absurd (omega (arith, one))
simple-alone Nop one = (Nop, refl, λ s k. refl)
simple-alone op one = (op, refl, λ s k. refl)

op-alone : (op : Op) → (op_light op).length ≡ 1 → IsAlone (row op).byte
op-alone (ops.Simple op) one = simple-alone op one
op-alone (ops.Index Br) one = absurd (omega (arith, one))
op-alone (ops.Index BrIf) one = absurd (omega (arith, one))
op-alone (ops.Index LocalGet) one = absurd (omega (arith, one))
op-alone (ops.Index LocalSet) one = absurd (omega (arith, one))
op-alone (ops.Index LocalTee) one = absurd (omega (arith, one))
op-alone (ops.Index Call) one = absurd (omega (arith, one))
op-alone (ops.Index GlobalGet) one = absurd (omega (arith, one))
op-alone (ops.Index GlobalSet) one = absurd (omega (arith, one))
op-alone (ops.Mem op) one = absurd (omega (arith, one))
op-alone ops.I32Const one = absurd (omega (arith, one))
op-alone ops.I64Const one = absurd (omega (arith, one))
op-alone ops.BrTable one = absurd (omega (arith, one))
op-alone ops.CallIndirect one = absurd (omega (arith, one))
op-alone ops.Block one = absurd (omega (arith, one))
op-alone ops.Loop one = absurd (omega (arith, one))
op-alone ops.If one = absurd (omega (arith, one))

meant-alone : (a : ℕ) (m : OpByte) → IsOpByte a m → (meant_light m).length ≡ 1 → IsAlone a
meant-alone a (Known op) is one = let byte = (is.known op).0 refl in rw (← byte) (op-alone op one)
meant-alone a Float is one = absurd (omega (arith, one))
meant-alone a Unknown is one = absurd (omega (arith, one))

pub light-alone : (a : ℕ) (r : Light) → r ≡ light_at a → r.length ≡ 1 → IsAlone a
unfolding light_at
light-alone a r e one = meant-alone a (meaning a) (meaning-is a) (rw e at one)

-- two bytes
pub light-two : (a b k : ℕ) (s t : Needs) (r : Light) → r ≡ light_at a → b < r.second → r.length ≡ 2
    → bit_and b r.label ≤ k → t ≡ with_light s r b → NotesTwo k a b s t
light-two a b k s t r e lt two within is =
    let noted = light-noted (a ∷ b ∷ 0 ∷ []) k s t r (omega arith) e lt (λ three. absurd (omega (arith, three, two)))
    (λ same. within) (λ none. omega (arith, none, two)) is in
    let all = rw two at noted in
    (all.0, append_cancel_right (a ∷ b ∷ []) (instr_bytes all.0) (0 ∷ []) all.1, all.2, all.3)

-- whose row bars what begins a longer integer, and no more
op-pair : (op : Op) → (op_light op).length ≡ 2 → (op_light op).second ≡ 128
op-pair (ops.Index Br) two = refl
op-pair (ops.Index BrIf) two = refl
op-pair (ops.Index LocalGet) two = refl
op-pair (ops.Index LocalSet) two = refl
op-pair (ops.Index LocalTee) two = refl
op-pair ops.I32Const two = refl
op-pair ops.I64Const two = refl
op-pair (ops.Simple MemorySize) two = absurd (omega (arith, two))
op-pair (ops.Simple MemoryGrow) two = absurd (omega (arith, two))
op-pair (ops.Simple Nop) two = absurd (omega (arith, two))
op-pair (ops.Simple op) two = absurd (omega (arith, two))
op-pair (ops.Index Call) two = absurd (omega (arith, two))
op-pair (ops.Index GlobalGet) two = absurd (omega (arith, two))
op-pair (ops.Index GlobalSet) two = absurd (omega (arith, two))
op-pair (ops.Mem op) two = absurd (omega (arith, two))
op-pair ops.BrTable two = absurd (omega (arith, two))
op-pair ops.CallIndirect two = absurd (omega (arith, two))
op-pair ops.Block two = absurd (omega (arith, two))
op-pair ops.Loop two = absurd (omega (arith, two))
op-pair ops.If two = absurd (omega (arith, two))

meant-pair : (m : OpByte) → (meant_light m).length ≡ 2 → (meant_light m).second ≡ 128
meant-pair (Known op) two = op-pair op two
meant-pair Float two = absurd (omega (arith, two))
meant-pair Unknown two = absurd (omega (arith, two))

pub light-pair : (a : ℕ) → (light_at a).length ≡ 2 → (light_at a).second ≡ 128
unfolding light_at
light-pair a two = meant-pair (meaning a) two
