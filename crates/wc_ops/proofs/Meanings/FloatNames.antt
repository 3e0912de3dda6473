-- No instruction of the table has a float's name.
use Rattle.std.proofs.Common.{◌≡◌, List, ℕ, refl, false, ap, Some}
use Rattle.wc_ops.specs.declared.op.Op.{Op}
use Rattle.wc_ops.specs.declared.op.Op.TheVariants.{Simple, Index, Mem, If}
use Rattle.wc_ops.specs.declared.op.SimpleOp.{SimpleOp}
use Rattle.wc_ops.specs.declared.op.SimpleOp.TheVariants.{Unreachable}
use Rattle.wc_ops.specs.declared.op.IndexOp.{IndexOp}
use Rattle.wc_ops.specs.declared.op.IndexOp.TheVariants.{Br}
use Rattle.wc_ops.specs.declared.op.MemOp.{MemOp}
use Rattle.wc_ops.specs.declared.op.MemOp.TheVariants.{I32Load}
use Rattle.wc_ops.specs.Standard.Opcodes.{row}
use Rattle.wc_ops.specs.Standard.NameMeaning.{IsOpName, is_float_name}
use Rattle.wc_ops.specs.Standard.NameMeaning.{IsNamed}
use Rattle.wc_ops.specs.declared.op.OpName.TheVariants.{Known}

simple-no_float : (op : SimpleOp) → is_float_name (row (Simple op)).name ≡ false
simple-no_float Unreachable = refl
simple-no_float _ = refl

index-no_float : (op : IndexOp) → is_float_name (row (Index op)).name ≡ false
index-no_float Br = refl
index-no_float _ = refl

mem-no_float : (op : MemOp) → is_float_name (row (Mem op)).name ≡ false
mem-no_float I32Load = refl
mem-no_float _ = refl

no_float : (op : Op) → is_float_name (row op).name ≡ false
no_float (Simple op) = simple-no_float op
no_float (Index op) = index-no_float op
no_float (Mem op) = mem-no_float op
no_float If = refl
no_float _ = refl

pub known_name : (word : List ℕ) (op : Op) → IsNamed word (Some op) → IsOpName word (Known op)
known_name word op h = record {
  known = λ o. ((λ e. (h o).0 cc), (λ e. let k = (h o).1 e in cc));
  float = ((λ e. cc), (λ t. let n = no_float op in let m = ap is_float_name ((h op).0 refl) in cc));
}
