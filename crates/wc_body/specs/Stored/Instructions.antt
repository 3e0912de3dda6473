-- How the logic stores an instruction: as a choice of its parts.
use Rattle.std.specs.Prelude.{ℕ, ℤ, ◌≡◌, ◌⊎◌, List, refl}
use Rattle.std.proofs.Common.{inl, inr}
use Rattle.std.specs.Coded.{Coded, code_by, coded×, coded⊎, coded_ℕ, coded_ℤ, coded_list}
use Rattle.wc_ops.specs.declared.op.SimpleOp.{SimpleOp}
use Rattle.wc_ops.specs.declared.op.IndexOp.{IndexOp}
use Rattle.wc_ops.specs.declared.op.MemOp.{MemOp}
use Rattle.wc_ops.specs.contracts.op.SimpleOp as simple_op
use Rattle.wc_ops.specs.contracts.op.IndexOp as index_op
use Rattle.wc_ops.specs.contracts.op.MemOp as mem_op
use Rattle.wc_body.specs.declared.instr.Instr.{Instr}
use Rattle.wc_body.specs.declared.instr.Instr.TheVariants.{Simple, Index, Mem, BrTable, CallIndirect, I32Const}
use Rattle.wc_body.specs.declared.instr.Instr.TheVariants.{I64Const}

-- a load or a store, its alignment and its offset
abbrev Access : Type 0
Access = MemOp × (ℕ × ℕ)

-- an instruction as a choice, in the order of its variants
abbrev Choice : Type 0
Choice = SimpleOp ⊎ ((IndexOp × ℕ) ⊎ (Access ⊎ ((ℕ × List ℕ) ⊎ (ℕ ⊎ (ℤ ⊎ ℤ)))))

-- the choice of an instruction
abbrev choice_of : Instr → Choice
choice_of (Simple op) = inl op
choice_of (Index op i) = inr (inl (op, i))
choice_of (Mem op arg) = inr (inr (inl (op, (arg.align, arg.offset))))
choice_of (BrTable default labels) = inr (inr (inr (inl (default, labels))))
choice_of (CallIndirect ty) = inr (inr (inr (inr (inl ty))))
choice_of (I32Const n) = inr (inr (inr (inr (inr (inl n)))))
choice_of (I64Const n) = inr (inr (inr (inr (inr (inr n)))))

-- the instruction of a choice
abbrev of_choice : Choice → Instr
of_choice (inl op) = Simple op
of_choice (inr (inl p)) = Index p.0 p.1
of_choice (inr (inr (inl p))) = Mem p.0 (record { align = p.1.0; offset = p.1.1 })
of_choice (inr (inr (inr (inl p)))) = BrTable p.0 p.1
of_choice (inr (inr (inr (inr (inl ty))))) = CallIndirect ty
of_choice (inr (inr (inr (inr (inr (inl n)))))) = I32Const n
of_choice (inr (inr (inr (inr (inr (inr n)))))) = I64Const n

-- an instruction is that of its choice
pub choice-back : (i : Instr) → of_choice (choice_of i) ≡ i
choice-back (Simple op) = refl
choice-back (Index op i) = refl
choice-back (Mem op arg) = refl
choice-back (BrTable default labels) = refl
choice-back (CallIndirect ty) = refl
choice-back (I32Const n) = refl
choice-back (I64Const n) = refl

-- how a load or a store is stored
abbrev pub access_code : Coded (MemOp × (ℕ × ℕ))
access_code = coded× mem_op.the_row.coded (coded× coded_ℕ coded_ℕ)

-- how an instruction is stored
abbrev pub instr_code : Coded Instr
instr_code =
    code_by Choice
    (coded⊎ simple_op.the_row.coded (coded⊎ (coded× index_op.the_row.coded coded_ℕ) (coded⊎ access_code
    (coded⊎ (coded× coded_ℕ (coded_list coded_ℕ)) (coded⊎ coded_ℕ (coded⊎ coded_ℤ coded_ℤ))))))
    choice_of of_choice choice-back
