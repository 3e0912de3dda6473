-- What the tokens of one mark add to a body.
use Rattle.std.proofs.Common.{◌≡◌, ℕ, zero, suc, ◌-◌, ◌%◌, ◌^◌, ◌<◌, ◌≤◌, ◌==◌, nat_lt, Bool, true, false, List, []}
use Rattle.std.proofs.Common.{◌∷◌, ◌++◌, map, length, refl, sym, ap, subst, ◌∙◌, arith, ℤ, pos, negsuc, Option, Some}
use Rattle.std.proofs.Common.{None, append_assoc}
use Rattle.std.specs.Prelude.{if◌then◌else◌}
use Rattle.std.specs.List.{AllByRecursion}
use Rattle.wc_ops.specs.declared.op.Op.TheVariants as ops
use Rattle.wc_body.specs.declared.instr.BlockType.{BlockType}
use Rattle.wc_body.specs.declared.instr.Instr.{Instr}
use Rattle.wc_body.specs.declared.instr.Instr.TheVariants as instrs
use Rattle.wc_body.specs.Standard.Nested.{Mark, plain}
use Rattle.wc_body.specs.Standard.Draft.{Draft, step}
use Rattle.wc_body.specs.Standard.ValueBytes.{Fits32}
use Rattle.wc_body.specs.Standard.InstructionBytes.{FitsInstr}
use Rattle.wc_body.specs.declared.instr.MemArg.{MemArg}
use Rattle.wc_ops.specs.declared.op.MemOp.{MemOp}
use Rattle.wc_ops.specs.Standard.Opcodes.{memory}
use Rattle.std.specs.Int.{cast_signed, w32, w64}
use Rattle.std.proofs.Common.{ltb→lt}
use Rattle.std.proofs.Math.Dec.{leb→le}
use Rattle.std.proofs.lemmas.Int.{to_z_pos}
use Rattle.std.proofs.Math.Facts.{to_z-neg}
use Rattle.std.proofs.lemmas.List.{append-nil}
use Rattle.wc_tokens.specs.Standard.Numbers.{Minus, bits_of}
use Rattle.wc_syntax.specs.declared.role.Role.TheVariants as role
use Rattle.wc_symbols.specs.declared.symbol.Value.TheVariants.{Number}
use Rattle.wc_surface.specs.declared.instr.Operand.{Operand}
use Rattle.wc_surface.specs.declared.instr.Operand.TheVariants as operand
use Rattle.wc_surface.specs.declared.instr.TextInstr.TheVariants as text
use Rattle.wc_surface.specs.declared.type_use.TypeUse.{TypeUse}
use Rattle.wc_readback.specs.Grammar.Signs.{op_sign, natural, offset_sign, align_sign, exponent_of}
use Rattle.wc_surface.specs.declared.instr.TextInstr.{TextInstr}
use Rattle.wc_readback.specs.Grammar.InstructionSigns.{mark_signs, naturals}
use Rattle.wc_readback.specs.Grammar.Kept.{said_as, said_from}
use Rattle.wc_parse_code.specs.declared.body_draft.BodyDraft.{BodyDraft}
use Rattle.wc_parse_code.specs.Drafting.Words.{number_in, operand_by, ids_by, index_by, place_behind}
use Rattle.wc_parse_code.specs.Drafting.Uses.{started_use}
use Rattle.wc_surface.specs.declared.type_use.User.TheVariants as user
use Rattle.wc_parse_code.specs.declared.awaiting.Awaiting.TheVariants as awaiting
use Rattle.wc_parse_code.specs.Drafting.Opening.{await}
use Rattle.wc_parse_code.specs.Drafting.Saying.{settled, table_of}
use Rattle.wc_readback.specs.Instructions.Words.{word_of, taken}
use Rattle.wc_readback.specs.Instructions.Bodies.{Spot, instr_uses, instr_labels, behind, text_instr}

-- the draft holds what was said up to the spot: these instructions, in these blocks, and nothing waits
pub record Holds (d : BodyDraft) (code : Draft TextInstr ℕ) (s : Spot) (blocks : List ℕ) : Type 0 where
  pub code_is : (settled d).code ≡ code
  pub heads_is : (settled d).heads ≡ s.heads
  pub uses_is : (settled d).uses ≡ s.uses
  pub ids_is : (settled d).ids ≡ []
  pub labels_is : (settled d).labels ≡ s.labels
  pub held_is : (settled d).held ≡ []
  pub blocks_is : (settled d).blocks ≡ blocks

number-by : (n : ℕ) (b : Bool) → nat_lt n (2 ^ 32) ≡ b → n < 2 ^ 32 → (if b then Some n else None) ≡ Some n
number-by n true e lt = refl
number-by n false e lt = absurd (grind arith)

pub number : (n : ℕ) → Fits32 n → number_in (Number n) ≡ Some n
number n lt = number-by n (nat_lt n (2 ^ 32)) refl lt

-- one more instruction, and what it adds to the lists
one : (d e : BodyDraft) (k : Draft TextInstr ℕ) (s : Spot) (b : List ℕ) (i : Instr) (t : TextInstr) → Holds d k s b
    → (settled e).code ≡ step (settled d).code (plain t) → (settled e).heads ≡ (settled d).heads
    → (settled e).uses ≡ (settled d).uses ++ instr_uses s.token i → (settled e).ids ≡ (settled d).ids
    → (settled e).labels ≡ (settled d).labels ++ instr_labels i → (settled e).held ≡ (settled d).held
    → (settled e).blocks ≡ (settled d).blocks → Holds e (step k (plain t)) (behind s (plain i)) b
one d e k s b i t h c hs us is ls ws bs = record {
  code_is = c ∙ ap (λ (x : Draft TextInstr ℕ). step x (plain t)) h.code_is;
  heads_is = hs ∙ h.heads_is;
  uses_is = us ∙ ap (λ (x : List TypeUse). x ++ instr_uses s.token i) h.uses_is;
  ids_is = is ∙ h.ids_is;
  labels_is = ls ∙ ap (λ (x : List Operand). x ++ instr_labels i) h.labels_is;
  held_is = ws ∙ h.held_is;
  blocks_is = bs ∙ h.blocks_is;
}

-- the numbers of constants
low-bits : (n : ℕ) → n < 2 ^ 31 → cast_signed w32 (n % 2 ^ 32) ≡ pos n
low-bits n lt =
    let e : n % 2 ^ 32 ≡ n = omega (arith, lt) in
    ap (cast_signed w32) e ∙ to_z_pos w32 n lt

high-bits : (n : ℕ) → n < 2 ^ 31 → cast_signed w32 (bits_of 64 (Minus (suc n)) % 2 ^ 32) ≡ negsuc n
high-bits n lt =
    let e : bits_of 64 (Minus (suc n)) % 2 ^ 32 ≡ 2 ^ 32 - suc n = omega (arith, lt) in
    ap (cast_signed w32) e ∙ to_z-neg w32 n lt

high-bits-64 : (n : ℕ) → n < 2 ^ 63 → cast_signed w64 (bits_of 64 (Minus (suc n))) ≡ negsuc n
high-bits-64 n lt =
    let e : bits_of 64 (Minus (suc n)) ≡ 2 ^ 64 - suc n = omega (arith, lt) in
    ap (cast_signed w64) e ∙ to_z-neg w64 n lt

-- labels are being taken
abbrev tabled : BodyDraft → ℕ → List Operand → BodyDraft
tabled f first ls = record f { awaiting = awaiting.Labels first; waits = false; labels = ls }

low : (a : ℕ) → nat_lt (exponent_of a) 256 ≡ true
low zero = refl
low (suc zero) = refl
low (suc (suc zero)) = refl
low (suc (suc (suc n))) = refl

module _ (addresses : ℕ → ℕ × ℕ) where
  -- the tokens of a mark
  abbrev pub said-of : BodyDraft → Spot → Mark Instr BlockType → BodyDraft
  said-of d s m = taken addresses d (said_from s.token (mark_signs m))

  tables : (f : BodyDraft) (first : ℕ) (ls : List Operand) (ns : List ℕ) (n token : ℕ) → AllByRecursion Fits32 ns
      → Fits32 n
      → taken addresses (tabled f first ls) (said_from token (naturals role.Index ns ++ (natural role.Index n ∷ [])))
      ≡ tabled f first (ls ++ (map operand.Number ns ++ operand.Number n ∷ []))
  tables f first ls [] n token h lt =
      ap (λ (o : Option ℕ). record f {
        awaiting = awaiting.Labels first;
        waits = false;
        labels = ls ++ operand_by o f.ids ∷ [];
        ids = ids_by o (word_of addresses (said_as role.Index token (natural role.Index n))) f.ids;
      }) (number n lt)
  tables f first ls (m ∷ ns) n token h lt =
      ap (λ (o : Option ℕ). taken addresses (record f {
        awaiting = awaiting.Labels first;
        waits = false;
        labels = ls ++ operand_by o f.ids ∷ [];
        ids = ids_by o (word_of addresses (said_as role.Index token (natural role.Index m))) f.ids;
      }) (said_from (suc token) (naturals role.Index ns ++ (natural role.Index n ∷ [])))) (number m h.0)
      ∙ (tables f first (ls ++ operand.Number m ∷ []) ns n (suc token) h.1 lt
      ∙ ap (tabled f first) (append_assoc ls (operand.Number m ∷ []) (map operand.Number ns ++ operand.Number n ∷ [])))

  -- an access, by whether its offset and its alignment are written
  accesses : (d : BodyDraft) (k : Draft TextInstr ℕ) (s : Spot) (b : List ℕ) (o : MemOp) (arg : MemArg) (bo ba : Bool)
      → Holds d k s b
      → Holds (taken addresses d (said_from s.token (op_sign role.Plain (ops.Mem o)
      ∷ ((if bo then [] else offset_sign arg.offset ∷ []) ++ (if ba then [] else align_sign arg.align ∷ [])))))
      (step k (plain (text.Access o (if ba then None else Some (exponent_of arg.align))
      (if bo then None else Some arg.offset))))
      (behind s (plain (instrs.Mem o arg))) b
  accesses d k s b o arg true true h =
      one d _ k s b (instrs.Mem o arg) _ h refl refl (sym (append-nil _)) refl (sym (append-nil _)) refl refl
  accesses d k s b o arg false true h =
      one d _ k s b (instrs.Mem o arg) _ h refl refl (sym (append-nil _)) refl (sym (append-nil _)) refl refl
  accesses d k s b o arg true false h =
      let f = record (settled d) { waits = false; awaiting = awaiting.MemArg o None None } in
      let P : Bool → Type 0 = λ t. Holds (if t then await (awaiting.MemArg o (Some (exponent_of arg.align)) None) f else
      f)
      (step k (plain (text.Access o (Some (exponent_of arg.align)) None))) (behind s (plain (instrs.Mem o arg))) b in
      subst P (sym (low arg.align))
      (one d _ k s b (instrs.Mem o arg) _ h refl refl (sym (append-nil _)) refl (sym (append-nil _)) refl refl)
  accesses d k s b o arg false false h =
      let f = record (settled d) { waits = false; awaiting = awaiting.MemArg o None (Some arg.offset) } in
      let P : Bool → Type 0 = λ t. Holds (if t then await (awaiting.MemArg o (Some (exponent_of arg.align))
      (Some arg.offset)) f else f)
      (step k (plain (text.Access o (Some (exponent_of arg.align)) (Some arg.offset))))
      (behind s (plain (instrs.Mem o arg))) b in
      subst P (sym (low arg.align))
      (one d _ k s b (instrs.Mem o arg) _ h refl refl (sym (append-nil _)) refl (sym (append-nil _)) refl refl)

  pub plains : (d : BodyDraft) (k : Draft TextInstr ℕ) (s : Spot) (b : List ℕ) (i : Instr) → FitsInstr i → Holds d k s b
      → Holds (said-of d s (plain i)) (step k (plain (text_instr s i))) (behind s (plain i)) b
  plains d k s b (instrs.Simple o) fits h =
      one d _ k s b (instrs.Simple o) _ h refl refl (sym (append-nil _)) refl (sym (append-nil _)) refl refl
  plains d k s b (instrs.Index o n) fits h =
      one d _ k s b (instrs.Index o n) _ h
      (ap (λ (x : Option ℕ). step (settled d).code (plain (text.Index o (operand_by x (settled d).ids))))
      (number n fits))
      refl (sym (append-nil _))
      (ap (λ (x : Option ℕ). ids_by x (word_of addresses (said_as role.Index (suc s.token) (natural role.Index n)))
      (settled d).ids) (number n fits))
      (sym (append-nil _)) refl refl
  plains d k s b (instrs.Mem o arg) fits h =
      accesses d k s b o arg (arg.offset == 0) (arg.align == (memory o).alignment) h
  plains d k s b (instrs.BrTable n ns) fits h =
      let ls = (settled d).labels in
      let more = map operand.Number ns ++ operand.Number n ∷ [] in
      let P : BodyDraft → Type 0 = λ e. Holds e (step k (plain (text_instr s (instrs.BrTable n ns))))
      (behind s (plain (instrs.BrTable n ns))) b in
      subst P (sym (tables (settled d) (length ls) ls ns n (suc s.token) fits.0.1 fits.1))
      (one d (tabled (settled d) (length ls) (ls ++ more)) k s b (instrs.BrTable n ns) _ h
      (ap (λ (x : List Operand). step (settled d).code (plain (table_of (length x) (length (x ++ more))))) h.labels_is)
      refl (sym (append-nil _)) refl refl refl refl)
  plains d k s b (instrs.CallIndirect n) fits h =
      let w = word_of addresses (said_as role.TypeIndex (suc (suc (suc s.token))) (natural role.TypeIndex n)) in
      let P : Option ℕ → Type 0 = λ x. Holds (record (settled d) {
        awaiting = awaiting.Use;
        waits = false;
        written = record (started_use user.CallIndirect s.token) { index = Some (index_by x w) };
      }) (step k (plain (text_instr s (instrs.CallIndirect n)))) (behind s (plain (instrs.CallIndirect n))) b in
      subst P (sym (number n fits))
      (one d _ k s b (instrs.CallIndirect n) _ h
      (ap (λ (us : List TypeUse). step (settled d).code (plain (text.CallIndirect (place_behind us)))) h.uses_is)
      refl refl refl (sym (append-nil _)) refl refl)
  plains d k s b (instrs.I32Const (pos n)) fits h =
      one d _ k s b (instrs.I32Const (pos n)) _ h
      (ap (λ (z : ℤ). step (settled d).code (plain (text.I32Const z))) (low-bits n (ltb→lt n (2 ^ 31) fits.1.lt)))
      refl (sym (append-nil _)) refl (sym (append-nil _)) refl refl
  plains d k s b (instrs.I32Const (negsuc n)) fits h =
      let le : n ≤ 2 ^ 31 - 1 = leb→le n _ fits.0.le in
      one d _ k s b (instrs.I32Const (negsuc n)) _ h
      (ap (λ (z : ℤ). step (settled d).code (plain (text.I32Const z))) (high-bits n (omega (arith, le))))
      refl (sym (append-nil _)) refl (sym (append-nil _)) refl refl
  plains d k s b (instrs.I64Const (pos n)) fits h =
      one d _ k s b (instrs.I64Const (pos n)) _ h
      (ap (λ (z : ℤ). step (settled d).code (plain (text.I64Const z))) (to_z_pos w64 n (ltb→lt n (2 ^ 63) fits.1.lt)))
      refl (sym (append-nil _)) refl (sym (append-nil _)) refl refl
  plains d k s b (instrs.I64Const (negsuc n)) fits h =
      let le : n ≤ 2 ^ 63 - 1 = leb→le n _ fits.0.le in
      one d _ k s b (instrs.I64Const (negsuc n)) _ h
      (ap (λ (z : ℤ). step (settled d).code (plain (text.I64Const z))) (high-bits-64 n (omega (arith, le))))
      refl (sym (append-nil _)) refl (sym (append-nil _)) refl refl
