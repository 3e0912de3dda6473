-- Brief entries as lines: what is written of one.
use Rattle.std.specs.Prelude.{Some, None, slice_index, if◌then◌else◌}
use Rattle.std.proofs.Common.{◌≡◌, ℕ, zero, suc, ◌-◌, ◌<◌, ◌^◌, ◌==◌, ℤ, pos, negsuc, ◌-ℤ◌, Bool, true, false}
use Rattle.std.proofs.Common.{List, [], ◌∷◌, ◌++◌, inl, inr, refl, sym, subst, arith, codes}
use Rattle.std.proofs.lemmas.Bool.Decides.{nat_tests}
use Rattle.std.proofs.lemmas.Bool.{cases_lt, lt-ltb, le-ltb}
use Rattle.std.proofs.lemmas.Int.{ints}
use Rattle.std.proofs.lemmas.List.{append-nil}
use lib.Signed.{mag}
use Rattle.wc_ops.specs.declared.op.Op.{Op}
use Rattle.wc_ops.specs.declared.op.Op.TheVariants as ops
use Rattle.wc_ops.specs.declared.op.OpByte.{OpByte}
use Rattle.wc_ops.specs.declared.op.OpByte.TheVariants.{Known, Float, Unknown}
use Rattle.wc_ops.specs.Standard.Opcodes.{row, memory}
use Rattle.wc_ops.specs.Reading.OpcodeMeaning.{meaning}
use Rattle.wc_body.specs.declared.instr.Instr.TheVariants as instrs
use Rattle.wc_body.specs.declared.instr.BlockType.TheVariants.{Empty}
use Rattle.wc_body.specs.declared.entry.Kind.TheVariants.{Block, Loop, If}
use Rattle.wc_body.specs.declared.entry.Entry.{Entry}
use Rattle.wc_body.specs.declared.entry.Entry.TheVariants.{Plain, Begin, Else, End}
use Rattle.wc_body.specs.Standard.Walks.Brief.{signed_byte, op_entry, meant_entry, brief_entry}
use Rattle.wc_body.specs.Standard.Entries.{mark}
use Rattle.wc_tokens.specs.Standard.Lexemes.{is_idchar}
use Rattle.wc_print.specs.Standard.Printed.{word, below, printed}
use Rattle.wc_print.specs.Standard.Printable.{is_word, AreSpelled, Put}
use Rattle.wc_print.specs.Standard.Lines.{told, offset_items, align_items}
use Rattle.wc_print.specs.Writing.Places.{line_items}
use Rattle.wc_print.specs.Writing.Briefly.{told_text, operand_items, operand_kind, Tells, TellsMeant, IsLine}
use Rattle.wc_print.proofs.Reading.Naming.{simple-word, index-word, memory-word}
use Rattle.wc_print.proofs.Writing.Paging.{line-put}
use Rattle.wc_print.proofs.Writing.Putting.{chain, text}

-- the name of an instruction is a word
pub op-word : (op : Op) → is_word (row op).name ≡ true
unfolding is_idchar
op-word (ops.Simple op) = simple-word op
op-word (ops.Index op) = index-word op
op-word (ops.Mem op) = memory-word op
op-word ops.BrTable = refl
op-word ops.CallIndirect = refl
op-word ops.I32Const = refl
op-word ops.I64Const = refl
op-word ops.Block = refl
op-word ops.Loop = refl
op-word ops.If = refl

same-number : (n : ℕ) → (n == n) ≡ true
same-number n = grind (arith, nat_tests)

-- the natural alignment isn't printed
align-none : (n : ℕ) → align_items n n ≡ []
align-none n = rw (same-number n) refl

-- the entry of this instruction as items
op-items : (op : Op) (n : ℕ) (entry : Entry) → op_entry op n ≡ Some entry
    → line_items (mark entry) ≡ below 4 (word (row op).name) ∷ operand_items (operand_kind op) n
op-items (ops.Simple op) n entry e = let same : Plain (instrs.Simple op) ≡ entry = cc in rw (← same) refl
op-items (ops.Index op) n entry e = let same : Plain (instrs.Index op n) ≡ entry = cc in rw (← same) refl
op-items (ops.Mem op) n entry e =
    let same : Plain (instrs.Mem op (record { align = (memory op).alignment; offset = n })) ≡ entry = cc in
    rw (← same, align-none (memory op).alignment, append-nil (offset_items n)) refl
op-items ops.I32Const n entry e = let same : Plain (instrs.I32Const (signed_byte n)) ≡ entry = cc in rw (← same) refl
op-items ops.I64Const n entry e = let same : Plain (instrs.I64Const (signed_byte n)) ≡ entry = cc in rw (← same) refl
op-items ops.Block n entry e = let same : Begin Block Empty ≡ entry = cc in rw (← same) refl
op-items ops.Loop n entry e = let same : Begin Loop Empty ≡ entry = cc in rw (← same) refl
op-items ops.If n entry e = let same : Begin If Empty ≡ entry = cc in rw (← same) refl
op-items ops.BrTable n entry e = absurd cc
op-items ops.CallIndirect n entry e = absurd cc

-- ---- what is spelled

integer-spelled : (n : ℕ) → n < 128 → mag (signed_byte n) < 2 ^ 63
integer-spelled n lt = elim (cases_lt n 64) [
  | inl low ↦ rw (lt-ltb n 64 low) (omega (arith, low))
  | inr high ↦
      let below : negsuc (127 - n) ≡ pos n -ℤ pos 128 = omega (arith, ints, lt) in
      let few : mag (negsuc (127 - n)) < 2 ^ 63 = omega arith in
      rw (le-ltb n 64 high) (subst (λ (z : ℤ). mag z < 2 ^ 63) below few)
]

offset-spelled : (none : Bool) (n : ℕ) → n < 128 → none ≡ (n == 0) → AreSpelled (offset_items n)
unfolding is_idchar
offset-spelled true n lt e = rw (← e) tt
offset-spelled false n lt e = rw (← e) ((refl, omega (arith, lt)), tt)

operand-spelled : (kind n : ℕ) → n < 128 → AreSpelled (operand_items kind n)
operand-spelled zero n lt = tt
operand-spelled (suc zero) n lt = (omega (arith, lt), tt)
operand-spelled (suc (suc zero)) n lt = (integer-spelled n lt, tt)
operand-spelled (suc (suc (suc k))) n lt = offset-spelled (n == 0) n lt refl

-- ---- what is written

-- the line and the operand are written one behind the other
module _ (n : ℕ) (r t old mid new : List ℕ) (low : n < 128) (line : mid ≡ old ++ told r)
    (operand : told_text t ≡ printed (operand_items (slice_index r 22) n)) (behind : new ≡ mid ++ told_text t) where
  told-put : (w : List ℕ) (kind : ℕ) → is_word w ≡ true → Tells w kind r
      → Put (below 4 (word w) ∷ operand_items kind n) old new
  told-put w kind h k =
      let is : told_text t ≡ printed (operand_items kind n) = rw k.operand at operand in
      chain (line-put (word w) h k.line line) (text (operand_items kind n) (operand-spelled kind n low) is behind)

  -- `else` or `end`
  mark-put : (otherwise close : Bool) (b : ℕ) (entry : Entry) → otherwise ≡ (b == 0x05) → close ≡ (b == 0x0B)
      → (if otherwise then Some Else else (if close then Some End else None)) ≡ Some entry
      → TellsMeant Unknown b r → Put (line_items (mark entry)) old new
  unfolding is_idchar
  mark-put true close b entry p q e k =
      let same : Else ≡ entry = cc in
      let is : b ≡ 0x05 = grind (arith, nat_tests, sym p) in
      rw (← same) (told-put (codes "else") 0 refl (k.0 is))
  mark-put false true b entry p q e k =
      let same : End ≡ entry = cc in
      let is : b ≡ 0x0B = grind (arith, nat_tests, sym q) in
      rw (← same) (told-put (codes "end") 0 refl (k.1 is))
  mark-put false false b entry p q e k = absurd cc

  meant-put : (m : OpByte) (b : ℕ) (entry : Entry) → meant_entry m b n ≡ Some entry → TellsMeant m b r
      → Put (line_items (mark entry)) old new
  meant-put (Known op) b entry e k =
      rw (op-items op n entry e) (told-put (row op).name (operand_kind op) (op-word op) k)
  meant-put Float b entry e k = absurd cc
  meant-put Unknown b entry e k = mark-put (b == 0x05) (b == 0x0B) b entry refl refl e k

  pub brief-put : (b : ℕ) → IsLine b r → (entry : Entry) → brief_entry (record { opcode = b; operand = n }) ≡ Some entry
      → Put (line_items (mark entry)) old new
  brief-put b h entry e = meant-put (meaning b) b entry e h.meant
