-- Each printed instruction and each printed head is what was printed, and its names have no fault.
use Rattle.std.proofs.Common.{◌≡◌, ℕ, zero, suc, ◌+◌, ◌-◌, ◌%◌, ◌^◌, ◌<◌, ◌≤◌, ◌==◌, Bool, true, false, List, [], ◌∷◌}
use Rattle.std.proofs.Common.{◌++◌, length, map, take, drop, get_or, refl, sym, ap, ◌∙◌, arith, length-append}
use Rattle.std.proofs.Common.{append_assoc, Some, None}
use Rattle.std.specs.Prelude.{if◌then◌else◌}
use Rattle.std.specs.Option.{unwrap_or}
use Rattle.std.specs.List.{flat_map, slice_get}
use Rattle.std.proofs.lemmas.Bool.{eqb-true}
use Rattle.std.proofs.lemmas.List.{map-append, length-map}
use Rattle.std.proofs.lemmas.Option.{slice_get-get_or}
use Rattle.std.proofs.Math.Nat.{mod-eq_of_lt}
use Rattle.std.proofs.Math.Seq.{take-append_seam, drop-append_seam, get_or-append_seam}
use Rattle.wc_ops.specs.declared.op.MemOp.{MemOp}
use Rattle.wc_ops.specs.declared.op.MemOp.TheVariants as mem_op
use Rattle.wc_ops.specs.Standard.Opcodes.{memory}
use Rattle.wc_body.specs.declared.instr.BlockType.{BlockType}
use Rattle.wc_body.specs.declared.instr.BlockType.TheVariants as block_types
use Rattle.wc_body.specs.declared.instr.Instr.{Instr}
use Rattle.wc_body.specs.declared.instr.Instr.TheVariants as instrs
use Rattle.wc_body.specs.Standard.Nested.{Mark, plain}
use Rattle.wc_surface.specs.declared.head.Head.{Head}
use Rattle.wc_surface.specs.declared.head.TextBody.{TextBody}
use Rattle.wc_surface.specs.declared.instr.Operand.{Operand}
use Rattle.wc_surface.specs.declared.type_use.TypeUse.{TypeUse}
use Rattle.wc_surface.specs.declared.type_use.User.{User}
use Rattle.wc_surface.specs.declared.type_use.User.TheVariants as user
use Rattle.wc_surface.specs.Standard.Identifiers.{Identifier}
use Rattle.wc_resolve_code.specs.Standard.Contexts.{Declared, Context}
use Rattle.wc_resolve_code.specs.Standard.Operands.{index_in, index_faults}
use Rattle.wc_resolve_code.specs.Standard.Instructions.{type_at, table, labels_at, resolved_instr, instr_faults}
use Rattle.wc_resolve_code.specs.Standard.Heads.{type_in, faults_in, resolved_head, head_faults}
use Rattle.wc_readback.specs.Grammar.Signs.{exponent_of}
use Rattle.wc_parse_code.specs.Drafting.Words.{place_behind}
use Rattle.wc_parse_code.specs.Drafting.Heads.{head_of}
use Rattle.wc_readback.specs.Instructions.Bodies.{Spot, use_at, instr_labels, head_type, unless_zero, unless_natural}
use Rattle.wc_readback.specs.Instructions.Bodies.{text_instr, behind, behind_head}
use Rattle.wc_readback.specs.Names.Known.{KnownInstr}
use Rattle.wc_readback.proofs.NameLemmas.Spots.{Reached, HasRoom}

-- ---- alignments and offsets

exponent-same : (a : ℕ) → a ≤ 3 → exponent_of a ≡ a
exponent-same zero h = refl
exponent-same (suc zero) h = refl
exponent-same (suc (suc zero)) h = refl
exponent-same (suc (suc (suc n))) h = omega arith

natural-small : (o : MemOp) → (memory o).alignment ≤ 3
natural-small mem_op.I32Load = omega arith
natural-small mem_op.I64Load = omega arith
natural-small mem_op.I32Load8S = omega arith
natural-small mem_op.I32Load8U = omega arith
natural-small mem_op.I32Load16S = omega arith
natural-small mem_op.I32Load16U = omega arith
natural-small mem_op.I64Load8S = omega arith
natural-small mem_op.I64Load8U = omega arith
natural-small mem_op.I64Load16S = omega arith
natural-small mem_op.I64Load16U = omega arith
natural-small mem_op.I64Load32S = omega arith
natural-small mem_op.I64Load32U = omega arith
natural-small mem_op.I32Store = omega arith
natural-small mem_op.I64Store = omega arith
natural-small mem_op.I32Store8 = omega arith
natural-small mem_op.I32Store16 = omega arith
natural-small mem_op.I64Store8 = omega arith
natural-small mem_op.I64Store16 = omega arith
natural-small mem_op.I64Store32 = omega arith

align-by : (natural a : ℕ) (b : Bool) → (a == natural) ≡ b → a ≤ natural → natural ≤ 3
    → unwrap_or (if b then None else Some (exponent_of a)) natural ≡ a
align-by natural a true e h g = sym (eqb-true a natural e)
align-by natural a false e h g = exponent-same a (omega arith)

align-back : (o : MemOp) (a : ℕ) → a ≤ (memory o).alignment → unwrap_or (unless_natural o a) (memory o).alignment ≡ a
align-back o a h = align-by (memory o).alignment a (a == (memory o).alignment) refl h (natural-small o)

offset-by : (n : ℕ) (b : Bool) → (n == 0) ≡ b → unwrap_or (if b then None else Some n) 0 ≡ n
offset-by n true e = sym (eqb-true n 0 e)
offset-by n false e = refl

offset-back : (n : ℕ) → unwrap_or (unless_zero n) 0 ≡ n
offset-back n = offset-by n (n == 0) refl

-- ---- places in the lists of a body

pub place-is : {X : Type 0} (xs ys zs : List X) → zs ≡ xs ++ ys → length zs < 2 ^ 32 → place_behind xs ≡ length xs
place-is xs ys zs e lt =
    let l : length zs ≡ length xs + length ys = ap length e ∙ length-append xs ys in
    let small : length xs < 2 ^ 32 = omega (arith, l) in
    mod-eq_of_lt small

-- what stands at a place
found : {X : Type 0} (xs : List X) (x : X) (ys : List X) → slice_get (xs ++ x ∷ ys) (length xs) ≡ Some x
found xs x ys =
    let l = length-append xs (x ∷ ys) in
    slice_get-get_or (xs ++ x ∷ ys) (length xs) x (omega (arith, l))
    ∙ ap (λ (y : _). Some y) (get_or-append_seam xs x ys x)

-- ---- branches by a table

table-at : (n : ℕ) (d : ℕ) (ls : List ℕ) → n ≡ length ls
    → instrs.BrTable (get_or (ls ++ d ∷ []) n 0) (take n (ls ++ d ∷ [])) ≡ instrs.BrTable d ls
table-at n d ls e =
    ap (λ (k : ℕ). instrs.BrTable (get_or (ls ++ d ∷ []) k 0) (take k (ls ++ d ∷ []))) e
    ∙ (ap (λ (x : ℕ). instrs.BrTable x (take (length ls) (ls ++ d ∷ []))) (get_or-append_seam ls d [] 0)
    ∙ ap (λ (x : List ℕ). instrs.BrTable d x) (take-append_seam ls (d ∷ [])))

table-back : (d : ℕ) (ls : List ℕ) → table (ls ++ d ∷ []) ≡ instrs.BrTable d ls
table-back d ls =
    let l = length-append ls (d ∷ []) in
    table-at (length (ls ++ d ∷ []) - 1) d ls (omega (arith, l))

numbers-back : (ds : Declared) (ids : List Identifier) (d : ℕ) (ls : List ℕ)
    → map (index_in ds ids) (instr_labels (instrs.BrTable d ls)) ≡ ls ++ d ∷ []
numbers-back ds ids d [] = refl
numbers-back ds ids d (l ∷ ls) = ap (λ (x : List ℕ). l ∷ x) (numbers-back ds ids d ls)

numbers-clean : (ds : Declared) (ids : List Identifier) (d : ℕ) (ls : List ℕ)
    → flat_map (index_faults ds ids) (instr_labels (instrs.BrTable d ls)) ≡ []
numbers-clean ds ids d [] = refl
numbers-clean ds ids d (l ∷ ls) = numbers-clean ds ids d ls

taken-out : {X : Type 0} (xs ys zs all : List X) (n k : ℕ) → all ≡ (xs ++ ys) ++ zs → n ≡ length xs → k ≡ length ys
    → take k (drop n all) ≡ ys
taken-out xs ys zs all n k e f g =
    ap (λ (i : ℕ). take i (drop n all)) g
    ∙ (ap (λ (i : ℕ). take (length ys) (drop i all)) f
    ∙ (ap (λ (l : List _). take (length ys) (drop (length xs) l)) (e ∙ append_assoc xs ys zs)
    ∙ (ap (λ (l : List _). take (length ys) l) (drop-append_seam xs (ys ++ zs))
    ∙ take-append_seam ys zs)))

labels-back : (b : TextBody) (s : Spot) (i : Instr) → HasRoom b → Reached (behind s (plain i)) b
    → labels_at b (length s.labels % 2 ^ 32)
    ((length (s.labels ++ instr_labels i) - length s.labels) % 2 ^ 32) ≡ instr_labels i
labels-back b s i room r =
    let l = length-append s.labels (instr_labels i) in
    let m = length-append (s.labels ++ instr_labels i) r.more_labels in
    let e : length b.labels ≡ length ((s.labels ++ instr_labels i) ++ r.more_labels) = ap length r.labels_are in
    let lt : length b.labels < 2 ^ 32 = room.labels in
    let small : length s.labels < 2 ^ 32 = omega (arith, l, m, e, lt) in
    let count : length (s.labels ++ instr_labels i) - length s.labels ≡ length (instr_labels i) = omega (arith, l) in
    let few : length (instr_labels i) < 2 ^ 32 = omega (arith, l, m, e, lt) in
    taken-out s.labels (instr_labels i) r.more_labels b.labels _ _ r.labels_are (mod-eq_of_lt small)
    (ap (λ (k : ℕ). k % 2 ^ 32) count ∙ mod-eq_of_lt few)

module _ (c : Context) (b : TextBody) (room : HasRoom b) where
  pub instr-clean : (s : Spot) (ls : Declared) (i : Instr) → Reached (behind s (plain i)) b
      → instr_faults c b ls (text_instr s i) ≡ []
  instr-clean s ls (instrs.Simple o) r = refl
  instr-clean s ls (instrs.Index o n) r = refl
  instr-clean s ls (instrs.Mem o arg) r = refl
  instr-clean s ls (instrs.BrTable d labels) r =
      ap (λ (x : List Operand). flat_map (index_faults ls b.ids) x) (labels-back b s (instrs.BrTable d labels) room r)
      ∙ numbers-clean ls b.ids d labels
  instr-clean s ls (instrs.CallIndirect n) r = refl
  instr-clean s ls (instrs.I32Const z) r = refl
  instr-clean s ls (instrs.I64Const z) r = refl

  head-found : (s : Spot) (m : Mark Instr BlockType) (t : BlockType) → Reached (behind_head s m t) b
      → slice_get b.heads (place_behind s.heads) ≡ Some (head_of s.token None (head_type s.uses t))
  head-found s m t r =
      let h = head_of s.token None (head_type s.uses t) in
      let e : b.heads ≡ s.heads ++ h ∷ r.more_heads = r.heads_are ∙ append_assoc s.heads (h ∷ []) r.more_heads in
      ap (λ (k : ℕ). slice_get b.heads k) (place-is s.heads (h ∷ r.more_heads) b.heads e room.heads)
      ∙ (ap (λ (hs : List Head). slice_get hs (length s.heads)) e ∙ found s.heads h r.more_heads)

  pub head-clean : (s : Spot) (m : Mark Instr BlockType) (t : BlockType) → Reached (behind_head s m t) b
      → head_faults b (place_behind s.heads) ≡ []
  head-clean s m t r = ap faults_in (head-found s m t r)

module _ (c : Context) (b : TextBody) (index : TypeUse → ℕ) (same : (u : User) (t n : ℕ) → index (use_at u t n) ≡ n)
    (uses-are : c.uses ≡ map index b.uses) (room : HasRoom b) where
  -- the type of a use that was written
  pub type-back : (u : User) (t n : ℕ) (before more : List TypeUse) → b.uses ≡ before ++ use_at u t n ∷ more
      → type_at c (place_behind before) ≡ n
  type-back u t n before more e =
      ap (λ (k : ℕ). get_or c.uses k 0) (place-is before (use_at u t n ∷ more) b.uses e room.uses)
      ∙ (ap (λ (us : List ℕ). get_or us (length before) 0)
      (uses-are ∙ ap (map index) e ∙ map-append index before (use_at u t n ∷ more))
      ∙ (ap (λ (k : ℕ). get_or (map index before ++ index (use_at u t n)
      ∷ map index more) k 0) (sym (length-map before index))
      ∙ (get_or-append_seam (map index before) (index (use_at u t n)) (map index more) 0 ∙ same u t n)))

  pub instr-back : (k : ℕ) (s : Spot) (ls : Declared) (i : Instr) → KnownInstr k i → Reached (behind s (plain i)) b
      → resolved_instr c b ls (text_instr s i) ≡ i
  instr-back k s ls (instrs.Simple o) h r = refl
  instr-back k s ls (instrs.Index o n) h r = refl
  instr-back k s ls (instrs.Mem o arg) h r =
      ap (λ (x : ℕ). instrs.Mem o (record { align = x; offset = unwrap_or (unless_zero arg.offset) 0 }))
      (align-back o arg.align h)
      ∙ ap (λ (x : ℕ). instrs.Mem o (record { align = arg.align; offset = x })) (offset-back arg.offset)
  instr-back k s ls (instrs.BrTable d labels) h r =
      ap (λ (x : List Operand). table (map (index_in ls b.ids) x)) (labels-back b s (instrs.BrTable d labels) room r)
      ∙ (ap table (numbers-back ls b.ids d labels) ∙ table-back d labels)
  instr-back k s ls (instrs.CallIndirect n) h r =
      ap instrs.CallIndirect (type-back user.CallIndirect s.token n s.uses r.more_uses
      (r.uses_are ∙ append_assoc s.uses (use_at user.CallIndirect s.token n ∷ []) r.more_uses))
  instr-back k s ls (instrs.I32Const z) h r = refl
  instr-back k s ls (instrs.I64Const z) h r = refl

  typed-back : (s : Spot) (m : Mark Instr BlockType) (t : BlockType) → Reached (behind_head s m t) b
      → type_in c (Some (head_of s.token None (head_type s.uses t))) ≡ t
  typed-back s m block_types.Empty r = refl
  typed-back s m (block_types.Value t) r = refl
  typed-back s m (block_types.Index n) r =
      ap block_types.Index (type-back user.Block s.token n s.uses r.more_uses
      (r.uses_are ∙ append_assoc s.uses (use_at user.Block s.token n ∷ []) r.more_uses))

  pub head-back : (s : Spot) (ls : Declared) (m : Mark Instr BlockType) (t : BlockType) → Reached (behind_head s m t) b
      → resolved_head c b ls (place_behind s.heads) ≡ t
  head-back s ls m t r = ap (type_in c) (head-found c b room s m t r) ∙ typed-back s m t r
