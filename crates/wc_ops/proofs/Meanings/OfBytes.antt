-- The meaning of a byte, computed, is the one that the table of opcodes gives it.
use Rattle.std.proofs.Common.{◌≡◌, ℕ, Bool, true, false, nat_eq, List, [], ◌∷◌, Option, Some, None, refl, sym, ap, ◌∙◌}
use Rattle.std.proofs.lemmas.Bool.{eqb-true}
use Rattle.wc_ops.specs.declared.op.Op.{Op}
use Rattle.wc_ops.specs.declared.op.Op.TheVariants.{Simple, Index, Mem, BrTable, CallIndirect, I32Const, I64Const}
use Rattle.wc_ops.specs.declared.op.Op.TheVariants.{Block, Loop, If}
use Rattle.wc_ops.specs.declared.op.OpByte.{OpByte}
use Rattle.wc_ops.specs.declared.op.OpByte.TheVariants.{Known, Float}
use Rattle.wc_ops.specs.declared.op.SimpleOp.{SimpleOp}
use Rattle.wc_ops.specs.declared.op.SimpleOp.TheVariants.{Nop}
use Rattle.wc_ops.specs.declared.op.IndexOp.{IndexOp}
use Rattle.wc_ops.specs.declared.op.IndexOp.TheVariants.{Br}
use Rattle.wc_ops.specs.declared.op.MemOp.{MemOp}
use Rattle.wc_ops.specs.declared.op.MemOp.TheVariants.{I32Load}
use Rattle.wc_ops.specs.Standard.Opcodes.{row}
use Rattle.wc_ops.specs.Standard.ByteMeaning.{is_float_byte, IsOpByte}
use Rattle.wc_ops.specs.Reading.OpcodeMeaning.{all_ops, find_op, known_or, meaning}
use Rattle.wc_ops.proofs.Meanings.OneMeaning.{one-byte}

-- ---- each instruction is found by its opcode

-- the opcode leads to the instruction, and is no float's
abbrev IsFound : Op → Type 0
IsFound op = (find_op all_ops (row op).byte ≡ Some op) × (is_float_byte (row op).byte ≡ false)

simple-found : (op : SimpleOp) → IsFound (Simple op)
simple-found Nop = (refl, refl)
simple-found _ = (refl, refl)

index-found : (op : IndexOp) → IsFound (Index op)
index-found Br = (refl, refl)
index-found _ = (refl, refl)

memory-found : (op : MemOp) → IsFound (Mem op)
memory-found I32Load = (refl, refl)
memory-found _ = (refl, refl)

found : (op : Op) → IsFound op
found (Simple op) = simple-found op
found (Index op) = index-found op
found (Mem op) = memory-found op
found BrTable = (refl, refl)
found CallIndirect = (refl, refl)
found I32Const = (refl, refl)
found I64Const = (refl, refl)
found Block = (refl, refl)
found Loop = (refl, refl)
found If = (refl, refl)

-- what is found has that opcode
find-byte : (ops : List Op) (x : ℕ) (op : Op) → find_op ops x ≡ Some op → (row op).byte ≡ x
find-byte [] x op h = absurd cc
find-byte (o ∷ ops) x op h = go (nat_eq (row o).byte x) refl (λ k. find-byte ops x op k)
  where
    some : Op → Option Op
    some p = Some p

    go : (b : Bool) → nat_eq (row o).byte x ≡ b → (find_op ops x ≡ Some op → (row op).byte ≡ x) → (row op).byte ≡ x
    go true e ih =
        let f : some o ≡ Some op = rw e at h in
        let same : o ≡ op = cc in
        ap (λ (p : Op). (row p).byte) (sym same) ∙ eqb-true (row o).byte x e
    go false e ih = ih (rw e at h)

known-byte : (x : ℕ) (o : Option Op) (op : Op) → known_or x o ≡ Known op → o ≡ Some op
known-byte x (Some p) op h = let same : p ≡ op = cc in ap (λ (q : Op). Some q) same
known-byte x None op h = go (is_float_byte x) refl
  where
    none : Option Op
    none = None

    go : (b : Bool) → is_float_byte x ≡ b → none ≡ Some op
    go true e = let f = rw e at h in absurd cc
    go false e = let f = rw e at h in absurd cc

float-byte : (x : ℕ) (o : Option Op) → known_or x o ≡ Float → is_float_byte x ≡ true
float-byte x (Some p) h = absurd cc
float-byte x None h = go (is_float_byte x) refl
  where
    go : (b : Bool) → is_float_byte x ≡ b → is_float_byte x ≡ true
    go true e = e
    go false e = let f = rw e at h in absurd cc

byte-float : (x : ℕ) (o : Option Op) → find_op all_ops x ≡ o → is_float_byte x ≡ true → known_or x o ≡ Float
byte-float x None e f = rw f refl
byte-float x (Some p) e f =
    let same = find-byte all_ops x p e in
    let no : is_float_byte x ≡ false = ap is_float_byte (sym same) ∙ (found p).1 in
    absurd cc

pub meaning-is : (x : ℕ) → IsOpByte x (meaning x)
unfolding meaning
meaning-is x = record {
  known = λ op. (
    (λ e. find-byte all_ops x op (known-byte x (find_op all_ops x) op e)),
    (λ e. ap (λ (y : ℕ). known_or y (find_op all_ops y)) (sym e)
        ∙ ap (λ (o : Option Op). known_or (row op).byte o) (found op).0),
  );
  float = ((λ e. float-byte x (find_op all_ops x) e), (λ e. byte-float x (find_op all_ops x) refl e));
}

-- whatever the table allows is that meaning
pub meant : (b : ℕ) (x : OpByte) → IsOpByte b x → x ≡ meaning b
meant b x h = one-byte b x (meaning b) h (meaning-is b)

-- an opcode means its instruction
pub row-meaning : (op : Op) → meaning (row op).byte ≡ Known op
row-meaning op = ((meaning-is (row op).byte).known op).1 refl
