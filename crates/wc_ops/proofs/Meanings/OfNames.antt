-- The opcode of each instruction stands at the slot of its name.
use Rattle.std.proofs.Common.{◌≡◌, ◌≢◌, ℕ, List, get_or, Some, None, refl, sym, ap, ◌∙◌}
use Rattle.wc_ops.specs.declared.op.Op.{Op}
use Rattle.wc_ops.specs.declared.op.Op.TheVariants.{Simple, Index, Mem, If}
use Rattle.wc_ops.specs.declared.op.OpByte.{OpByte}
use Rattle.wc_ops.specs.declared.op.OpByte.TheVariants.{Known}
use Rattle.wc_ops.specs.declared.op.SimpleOp.{SimpleOp}
use Rattle.wc_ops.specs.declared.op.SimpleOp.TheVariants.{Nop}
use Rattle.wc_ops.specs.declared.op.IndexOp.{IndexOp}
use Rattle.wc_ops.specs.declared.op.IndexOp.TheVariants.{Br}
use Rattle.wc_ops.specs.declared.op.MemOp.{MemOp}
use Rattle.wc_ops.specs.declared.op.MemOp.TheVariants.{I32Load}
use Rattle.wc_ops.specs.declared.op_of_name.TheConstants.{OPCODES}
use Rattle.wc_ops.specs.Standard.Opcodes.{row}
use Rattle.wc_ops.specs.Standard.ByteMeaning.{IsOpByte}
use Rattle.wc_ops.specs.Standard.NameMeaning.{IsNamed}
use Rattle.wc_ops.specs.Reading.NameSlots.{slot}

-- the opcode at the slot of a word
abbrev pub at_slot : List ℕ → ℕ
at_slot w = get_or OPCODES (slot w) 0

simple-at : (op : SimpleOp) → at_slot (row (Simple op)).name ≡ (row (Simple op)).byte
simple-at Nop = refl
simple-at _ = refl

index-at : (op : IndexOp) → at_slot (row (Index op)).name ≡ (row (Index op)).byte
index-at Br = refl
index-at _ = refl

memory-at : (op : MemOp) → at_slot (row (Mem op)).name ≡ (row (Mem op)).byte
memory-at I32Load = refl
memory-at _ = refl

at-slot : (op : Op) → at_slot (row op).name ≡ (row op).byte
at-slot (Simple op) = simple-at op
at-slot (Index op) = index-at op
at-slot (Mem op) = memory-at op
at-slot If = refl
at-slot _ = refl

-- an instruction with that name is what the opcode at its slot means
meant : (w : List ℕ) (found : OpByte) → IsOpByte (at_slot w) found → (op : Op) → (row op).name ≡ w → found ≡ Known op
meant w found h op e = (h.known op).1 (sym (at-slot op) ∙ ap at_slot e)

-- the opcode at the slot means an instruction of that name
pub is-named : (w : List ℕ) (op : Op) → IsOpByte (at_slot w) (Known op) → (row op).name ≡ w → IsNamed w (Some op)
is-named w op h e = λ o. (
  (λ s. let same : op ≡ o = cc in ap (λ (p : Op). (row p).name) (sym same) ∙ e),
  (λ n. let k = meant w (Known op) h o n in cc),
)

-- it means one of another name
pub is-other : (w : List ℕ) (op : Op) → IsOpByte (at_slot w) (Known op) → (row op).name ≢ w → IsNamed w None
is-other w op h other = λ o. (
  (λ s. absurd cc),
  (λ n. let k = meant w (Known op) h o n in
      let same : op ≡ o = cc in absurd (other (ap (λ (p : Op). (row p).name) same ∙ n))),
)

-- it means none
pub is-none : (w : List ℕ) (found : OpByte) → IsOpByte (at_slot w) found → ((op : Op) → found ≢ Known op)
    → IsNamed w None
is-none w found h none = λ o. ((λ s. absurd cc), (λ n. absurd (none o (meant w found h o n))))
