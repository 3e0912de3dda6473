-- Each opcode is the byte of what it begins, and of nothing else.
use Rattle.std.proofs.Common.{◌≡◌, ℕ, Bool, true, false, nat_eq, Result, Ok, refl, sym, ap, ◌∙◌}
use Rattle.std.proofs.lemmas.Bool.{eqb-true}
use Rattle.wc_ops.specs.declared.op.Op.{Op}
use Rattle.wc_ops.specs.declared.op.Op.TheVariants.{Simple, Index, Mem, BrTable, CallIndirect, I32Const, I64Const}
use Rattle.wc_ops.specs.declared.op.Op.TheVariants.{Block, Loop, If}
use Rattle.wc_ops.specs.declared.op.OpByte.{OpByte}
use Rattle.wc_ops.specs.declared.op.OpByte.TheVariants.{Known, Float, Unknown}
use Rattle.wc_body.specs.Standard.Nested.{block, loop}
use Rattle.wc_ops.specs.Standard.Opcodes.{row}
use Rattle.wc_binary.specs.declared.fault.BinWhy.{BinWhy}
use Rattle.wc_binary.specs.Standard.Expression.{Begun, plain_op, region_op, if_op, else_op, end_op}
use Rattle.wc_ops.specs.Reading.OpcodeMeaning.{meaning}
use Rattle.wc_binary.specs.Standard.Instructions.{begun_of, opcode}
use Rattle.wc_ops.proofs.Meanings.OfBytes.{meaning-is, row-meaning}

-- ---- from what begins to its byte

else-unknown : meaning 0x05 ≡ Unknown
unfolding meaning
else-unknown = refl

end-unknown : meaning 0x0B ≡ Unknown
unfolding meaning
end-unknown = refl

unknown-row : (op : Op) (x : ℕ) → meaning x ≡ Unknown → (row op).byte ≡ x → ⊥
unknown-row op x h e = let k : Unknown ≡ Known op = sym h ∙ ap meaning (sym e) ∙ row-meaning op in absurd cc

pub row-begins : (op : Op) → opcode (row op).byte ≡ begun_of (Known op)
row-begins op = go (nat_eq (row op).byte 0x05) (nat_eq (row op).byte 0x0B) refl refl
  where
    go : (a b : Bool) → nat_eq (row op).byte 0x05 ≡ a → nat_eq (row op).byte 0x0B ≡ b
        → opcode (row op).byte ≡ begun_of (Known op)
    go true b p q = absurd (unknown-row op 0x05 else-unknown (eqb-true (row op).byte 0x05 p))
    go false true p q = absurd (unknown-row op 0x0B end-unknown (eqb-true (row op).byte 0x0B q))
    go false false p q = rw (p, q) (ap begun_of (row-meaning op))

-- ---- from a byte to what it begins

-- the byte of what begins
abbrev pub byte_of : Begun Op → ℕ
byte_of (plain_op op) = (row op).byte
byte_of (region_op block) = 0x02
byte_of (region_op loop) = 0x03
byte_of if_op = 0x04
byte_of else_op = 0x05
byte_of end_op = 0x0B

abbrev ok : Begun Op → Result (Begun Op) BinWhy
ok k = Ok k

abbrev IsMeant : OpByte → Begun Op → Type 0
IsMeant m k = (op : Op) × (m ≡ Known op) × ((row op).byte ≡ byte_of k)

meant : (m : OpByte) (k : Begun Op) → begun_of m ≡ Ok k → IsMeant m k
meant (Known (Simple op)) k h = let e : plain_op (Simple op) ≡ k = cc in (Simple op, refl, ap byte_of e)
meant (Known (Index op)) k h = let e : plain_op (Index op) ≡ k = cc in (Index op, refl, ap byte_of e)
meant (Known (Mem op)) k h = let e : plain_op (Mem op) ≡ k = cc in (Mem op, refl, ap byte_of e)
meant (Known BrTable) k h = let e : plain_op BrTable ≡ k = cc in (BrTable, refl, ap byte_of e)
meant (Known CallIndirect) k h = let e : plain_op CallIndirect ≡ k = cc in (CallIndirect, refl, ap byte_of e)
meant (Known I32Const) k h = let e : plain_op I32Const ≡ k = cc in (I32Const, refl, ap byte_of e)
meant (Known I64Const) k h = let e : plain_op I64Const ≡ k = cc in (I64Const, refl, ap byte_of e)
meant (Known Block) k h = let e : region_op block ≡ k = cc in (Block, refl, ap byte_of e)
meant (Known Loop) k h = let e : region_op loop ≡ k = cc in (Loop, refl, ap byte_of e)
meant (Known If) k h = let e : if_op ≡ k = cc in (If, refl, ap byte_of e)
meant Float k h = absurd cc
meant Unknown k h = absurd cc

pub opcode-byte : (x : ℕ) (k : Begun Op) → opcode x ≡ Ok k → x ≡ byte_of k
opcode-byte x k h = go (nat_eq x 0x05) (nat_eq x 0x0B) refl refl
  where
    go : (a b : Bool) → nat_eq x 0x05 ≡ a → nat_eq x 0x0B ≡ b → x ≡ byte_of k
    go true b p q =
        let f : ok else_op ≡ Ok k = rw p at h in
        let e : else_op ≡ k = cc in
        eqb-true x 0x05 p ∙ ap byte_of e
    go false true p q =
        let f : ok end_op ≡ Ok k = rw (p, q) at h in
        let e : end_op ≡ k = cc in
        eqb-true x 0x0B q ∙ ap byte_of e
    go false false p q =
        let f : begun_of (meaning x) ≡ Ok k = rw (p, q) at h in
        let t = meant (meaning x) k f in
        sym (((meaning-is x).known t.0).0 t.1) ∙ t.2
