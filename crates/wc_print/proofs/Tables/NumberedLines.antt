-- Instructions of one integer as lines: what is written of one.
use Rattle.std.specs.Prelude.{Some}
use Rattle.std.proofs.Common.{◌≡◌, ℕ, ℤ, pos, negsuc, List, [], ◌∷◌, ◌++◌, refl, arith}
use Rattle.wc_ops.specs.declared.op.Op.{Op}
use Rattle.wc_ops.specs.declared.op.Op.TheVariants as ops
use Rattle.wc_ops.specs.declared.op.OpByte.{OpByte}
use Rattle.wc_ops.specs.declared.op.OpByte.TheVariants.{Known, Float, Unknown}
use Rattle.wc_ops.specs.declared.op.IndexOp.{IndexOp}
use Rattle.wc_ops.specs.Standard.Opcodes.{row}
use Rattle.wc_ops.specs.Reading.OpcodeMeaning.{meaning}
use Rattle.wc_body.specs.declared.instr.Instr.{Instr}
use Rattle.wc_body.specs.declared.instr.Instr.TheVariants as instrs
use Rattle.wc_body.specs.Standard.Nested.{plain}
use Rattle.wc_body.specs.Standard.Walks.Numbered.{index_instr, op_instr, meant_instr, numbered}
use Rattle.wc_print.specs.Standard.Printed.{word, number, integer, after, below}
use Rattle.wc_print.specs.Standard.Printable.{Put}
use Rattle.wc_print.specs.Standard.Lines.{told}
use Rattle.wc_print.specs.Writing.Places.{line_items}
use Rattle.wc_print.specs.Writing.Briefly.{TellsMeant, IsLine}
use Rattle.wc_print.proofs.Tables.BriefLines.{op-word}
use Rattle.wc_print.proofs.Writing.Paging.{line-put}
use Rattle.wc_print.proofs.Writing.Putting.{chain}

-- the line and the integer are written one behind the other
module _ (r old mid new : List ℕ) (z : ℤ) (line : mid ≡ old ++ told r) (behind : Put (after (integer z) ∷ []) mid new)
  where
    -- a natural number is written as a signed one is
    natural : (n : ℕ) → z ≡ pos n → Put (after (number n) ∷ []) mid new
    natural n e =
        let same : Put (after (integer (pos n)) ∷ []) mid new = rw e at behind in
        let few = same.spelled.0 in
        record { spelled = (omega (arith, few), tt); bytes = same.bytes }

    index-put : (op : IndexOp) (w : ℤ) → z ≡ w → (i : Instr) → index_instr op w ≡ Some i
        → TellsMeant (Known (ops.Index op)) 0 r → Put (line_items (plain i)) old new
    index-put op (pos n) e i said k =
        let same : instrs.Index op n ≡ i = cc in
        rw (← same) (chain (line-put (word (row (ops.Index op)).name) (op-word (ops.Index op)) k.line line) (natural n e))
    index-put op (negsuc n) e i said k = absurd cc

    constant-put : (op : Op) → TellsMeant (Known op) 0 r
        → Put (below 4 (word (row op).name) ∷ after (integer z) ∷ []) old new
    constant-put op k = chain (line-put (word (row op).name) (op-word op) k.line line) behind

    op-put : (op : Op) (i : Instr) → op_instr op z ≡ Some i → TellsMeant (Known op) 0 r
        → Put (line_items (plain i)) old new
    op-put (ops.Index op) i said k = index-put op z refl i said k
    op-put ops.I32Const i said k =
        let same : instrs.I32Const z ≡ i = cc in
        rw (← same) (constant-put ops.I32Const k)
    op-put ops.I64Const i said k =
        let same : instrs.I64Const z ≡ i = cc in
        rw (← same) (constant-put ops.I64Const k)
    op-put (ops.Simple op) i said k = absurd cc
    op-put (ops.Mem op) i said k = absurd cc
    op-put ops.BrTable i said k = absurd cc
    op-put ops.CallIndirect i said k = absurd cc
    op-put ops.Block i said k = absurd cc
    op-put ops.Loop i said k = absurd cc
    op-put ops.If i said k = absurd cc

    meant-put : (m : OpByte) (b : ℕ) (i : Instr) → meant_instr m z ≡ Some i → TellsMeant m b r
        → Put (line_items (plain i)) old new
    meant-put (Known op) b i said k = op-put op i said k
    meant-put Float b i said k = absurd cc
    meant-put Unknown b i said k = absurd cc

    pub numbered-put : (b : ℕ) → IsLine b r → (i : Instr) → numbered (record { opcode = b; number = z }) ≡ Some i
        → Put (line_items (plain i)) old new
    numbered-put b h i said = meant-put (meaning b) b i said h.meant
