-- An instruction in which none is nested, once it is said, is stored.
use Rattle.std.proofs.Common.{◌≡◌, ℕ, suc, ◌+◌, ◌≤◌, ◌<◌, ◌^◌, Bool, true, false, List, [], ◌∷◌, ◌++◌, length}
use Rattle.std.proofs.Common.{Option, Some, None, refl, sym, ap, ◌∙◌, append_assoc, append-nil, arith}
use Rattle.std.specs.Prelude.{◌%◌, ◌-◌, map, flat_map, if◌then◌else◌}
use Rattle.std.specs.Int.{cast_signed, w32, w64}
use Rattle.std.proofs.lemmas.Bool.{lt-ltb}
use Rattle.std.proofs.lemmas.List.{length-append, length-map}
use Rattle.std.proofs.Math.Nat.{mod-eq_of_lt}
use Rattle.wc_ops.specs.declared.op.SimpleOp.{SimpleOp}
use Rattle.wc_ops.specs.declared.op.IndexOp.{IndexOp}
use Rattle.wc_ops.specs.declared.op.MemOp.{MemOp}
use Rattle.wc_ops.specs.declared.op.Op.{Op}
use Rattle.wc_ops.specs.declared.op.Op.TheVariants as op
use Rattle.wc_body.specs.Standard.Nested.{plain}
use Rattle.wc_body.specs.Standard.Draft.{step}
use Rattle.wc_syntax.specs.declared.role.Role.{Role}
use Rattle.wc_syntax.specs.declared.role.Role.TheVariants as role
use Rattle.wc_symbols.specs.declared.symbol.Value.{Value}
use Rattle.wc_symbols.specs.declared.symbol.Value.TheVariants.{Number, Instruction}
use Rattle.wc_surface.specs.declared.instr.TextInstr.{TextInstr}
use Rattle.wc_surface.specs.declared.instr.TextInstr.TheVariants as text
use Rattle.wc_surface.specs.declared.instr.Operand.{Operand}
use Rattle.wc_surface.specs.declared.type_use.User.TheVariants as user
use Rattle.wc_surface.specs.Standard.Identifiers.{Identifier}
use Rattle.wc_surface.specs.Standard.Written.Indices.{Index}
use Rattle.wc_surface.specs.Standard.Written.Instructions.{Plain}
use Rattle.wc_parse_code.specs.declared.awaiting.Awaiting.{Awaiting}
use Rattle.wc_parse_code.specs.declared.awaiting.Awaiting.TheVariants as awaiting
use Rattle.wc_parse_code.specs.declared.held.Held.TheVariants as held
use Rattle.wc_parse_code.specs.declared.body_draft.BodyDraft.{BodyDraft}
use Rattle.wc_parse_code.specs.declared.use_draft.UseDraft.{UseDraft}
use Rattle.wc_parse_code.specs.Standard.Tokens.{KeptToken}
use Rattle.wc_parse_code.specs.Drafting.Words.{place_behind, operand_of, ids_with}
use Rattle.wc_parse_code.specs.Drafting.Uses.{use_of}
use Rattle.wc_parse_code.specs.Drafting.Saying.{complete, settle_by, settled, table_of}
use Rattle.wc_parse_code.specs.Drafting.Opening.{name_plain, await}
use Rattle.wc_parse_code.specs.Drafting.Immediates.{index_in, offset_by, align_by, literal_by}
use Rattle.wc_parse_code.specs.Standard.Productions.Tokens.{Said, ◌⊳◌}
use Rattle.wc_parse_code.specs.Standard.Productions.Plain.{AreLabels, IsMemOffset, IsMemAlign, IsMemArg, IsPlain}
use Rattle.wc_parse_code.specs.Drafting.Following.{take_said}
use Rattle.wc_parse_code.specs.Stored.Rows.{id_in, index_token}
use Rattle.wc_parse_code.specs.Stored.Bodies.{Places, operand_as, plain_as, first_label}
use Rattle.wc_parse_code.proofs.Storing.Ordered.Placing.{Placed, placed-first, placed-last}
use Rattle.wc_parse_code.proofs.Storing.Ordered.Following.{Follow, said-append, follow-length, part}
use Rattle.wc_parse_code.proofs.Storing.Words.{behind, stored-id, stored-operand, exponent-fits, bits-32, bits-64}
use Rattle.wc_parse_code.proofs.Storing.Ordered.Rows.{no_rows, plain_rows}
use Rattle.wc_parse_code.proofs.Storing.States.{State, state_of, standing, rows_added, same-rows, Fits}
use Rattle.wc_parse_code.proofs.Storing.TypeUses.{writes, written_as, use-said}

-- an instruction waits, or stands
abbrev pub said_as : Bool → State → TextInstr → State
said_as true s i = record s { held = held.Plain i ∷ s.held }
said_as false s i = record s { code = step s.code (plain i) }

-- what is said by the name of an instruction, which waits or doesn't, and what follows it
abbrev pub begun : Bool → BodyDraft → List Said → BodyDraft
begun b d [] = d
begun b d (r ⊳ w ∷ us) = take_said (name_plain b w.symbol.value w.token (settled d)) us

pub plain-begun : {us : List Said} {p : Plain} → IsPlain role.Plain us p → (d : BodyDraft)
    → take_said d us ≡ begun false d us
plain-begun (IsPlain.simple_name n) d = refl
plain-begun (IsPlain.index_name n i) d = refl
plain-begun (IsPlain.br_table_name n l) d = refl
plain-begun (IsPlain.call_indirect_name n u) d = refl
plain-begun (IsPlain.access_name n m) d = refl
plain-begun (IsPlain.i32_const_name n l) d = refl
plain-begun (IsPlain.i64_const_name n l) d = refl

pub held-begun : {us : List Said} {p : Plain} → IsPlain role.HeldPlain us p → (d : BodyDraft)
    → take_said d us ≡ begun true d us
held-begun (IsPlain.simple_name n) d = refl
held-begun (IsPlain.index_name n i) d = refl
held-begun (IsPlain.br_table_name n l) d = refl
held-begun (IsPlain.call_indirect_name n u) d = refl
held-begun (IsPlain.access_name n m) d = refl
held-begun (IsPlain.i32_const_name n l) d = refl
held-begun (IsPlain.i64_const_name n l) d = refl

same-said : (b : Bool) {s t : State} {i j : TextInstr} → s ≡ t → i ≡ j → said_as b s i ≡ said_as b t j
same-said b e f = rw (e, f)

pub rows-none : (places : Places) (s : State) → s ≡ rows_added places s no_rows
rows-none places s = same-rows (sym (append-nil s.heads)) (sym (append-nil s.uses)) (sym (append-nil s.ids))
    (sym (append-nil s.labels))

-- immediates may follow
abbrev awaits : Bool → Awaiting → BodyDraft → BodyDraft
awaits b a d = record (complete d) { waits = b; awaiting = a }

-- a name and its value
named : (b : Bool) (o : Op) (d : BodyDraft) (w : KeptToken) (us : List Said) → w.symbol.value ≡ Instruction o
    → standing (take_said (name_plain b w.symbol.value w.token (settled d)) us)
    ≡ standing (take_said (name_plain b (Instruction o) w.token (settled d)) us)
named b o d w us e =
    ap (λ (v : Value). standing (take_said (name_plain b v w.token (settled d)) us)) e

-- ---- without immediates

simple-said : (b : Bool) (o : SimpleOp) (token : ℕ) (d : BodyDraft)
    → standing (name_plain b (Instruction (op.Simple o)) token (complete d)) ≡ said_as b (state_of d) (text.Simple o)
simple-said true o token d = refl
simple-said false o token d = refl

-- ---- an index

index-said : (b : Bool) (o : IndexOp) (w : KeptToken) (d : BodyDraft)
    → standing (index_in (awaiting.Index o) w (awaits b (awaiting.Index o) d))
    ≡ said_as b (record (state_of d) { ids = ids_with w d.ids }) (text.Index o (operand_of w d.ids))
index-said true o w d = refl
index-said false o w d = refl

-- ---- labels

-- a `br_table` with these labels and identifiers
abbrev tables : Bool → ℕ → BodyDraft → List Identifier → List Operand → BodyDraft
tables b first d ids labels =
    record (complete d) { waits = b; awaiting = awaiting.Labels first; ids = ids; labels = labels }

table-said : (b : Bool) (first : ℕ) (d : BodyDraft) (ids : List Identifier) (labels : List Operand)
    → standing (tables b first d ids labels)
    ≡ said_as b (record (state_of d) { ids = ids; labels = labels }) (table_of first (length labels))
table-said true first d ids labels = refl
table-said false first d ids labels = refl

labels-said : (places : Places) (b : Bool) (first lo hi : ℕ) (d : BodyDraft) {us : List Said} {xs : List Index}
    {x : Index} → AreLabels us xs x → Follow lo us hi → (ids : List Identifier) (labels : List Operand)
    → Placed places.id_at (λ i. i.token) (length ids) (flat_map id_in (xs ++ x ∷ []))
    → take_said (tables b first d ids labels) us
    ≡ tables b first d (ids ++ flat_map id_in (xs ++ x ∷ [])) (labels ++ map (operand_as places) (xs ++ x ∷ []))
labels-said places b first lo hi d (AreLabels.default {w = w} {x = x} i) f ids labels p =
    let at : Placed places.id_at (λ i. i.token) (length ids) (id_in x) =
    placed-first (λ i. i.token) places.id_at (length ids) (id_in x) [] p in
    ap (λ (o : Operand). tables b first d (ids_with w ids) (labels ++ o ∷ [])) (stored-operand places ids f.0 i at)
    ∙ ap (λ (is : List Identifier). tables b first d is (labels ++ operand_as places x ∷ []))
    (stored-id ids f.0 i ∙ ap (λ (is : List Identifier). ids ++ is) (sym (append-nil (id_in x))))
labels-said places b first lo hi d (AreLabels.label {w = w} {us = us} {x = x} {last = last} {xs = xs} i more) f ids
    labels p =
    let rest = flat_map id_in (xs ++ last ∷ []) in
    let at : Placed places.id_at (λ i. i.token) (length ids) (id_in x) =
    placed-first (λ i. i.token) places.id_at (length ids) (id_in x) rest p in
    let others : Placed places.id_at (λ i. i.token) (length (ids ++ id_in x)) rest =
    placed-last (λ i. i.token) places.id_at (length ids) _ (id_in x) rest (length-append ids (id_in x)) p in
    ap (λ (o : Operand). take_said (tables b first d (ids_with w ids) (labels ++ o ∷ [])) us)
    (stored-operand places ids f.0 i at)
    ∙ ap (λ (is : List Identifier). take_said (tables b first d is (labels ++ operand_as places x ∷ [])) us)
    (stored-id ids f.0 i)
    ∙ labels-said places b first (suc w.token) hi d more f.3 (ids ++ id_in x) (labels ++ operand_as places x ∷ [])
    others
    ∙ ap (λ (is : List Identifier).
    tables b first d is ((labels ++ operand_as places x ∷ []) ++ map (operand_as places) (xs ++ last ∷ [])))
    (append_assoc ids (id_in x) rest)
    ∙ ap (λ (ls : List Operand). tables b first d (ids ++ flat_map id_in (x ∷ (xs ++ last ∷ []))) ls)
    (append_assoc labels (operand_as places x ∷ []) (map (operand_as places) (xs ++ last ∷ [])))

labels-length : {us : List Said} {xs : List Index} {x : Index} → AreLabels us xs x → length us ≡ suc (length xs)
labels-length (AreLabels.default i) = refl
labels-length (AreLabels.label i more) = ap suc (labels-length more)

first-placed : (place : ℕ → ℕ) (n : ℕ) (xs : List Index) (x : Index) → Placed place index_token n (xs ++ x ∷ [])
    → (place (index_token (first_label xs x)) ≡ n) × (n < 2 ^ 32)
first-placed place n [] x p = (p.0, p.1)
first-placed place n (y ∷ ys) x p = (p.0, p.1)

-- the number of labels behind these
counted : (n m count : ℕ) → m ≡ n + count → n < 2 ^ 32 → count < 2 ^ 32 → table_of n m ≡ text.BrTable n count
counted n m count e f g =
    let size : m - n ≡ count = omega (arith, e) in
    ap (λ (k : ℕ). text.BrTable k ((m - n) % 2 ^ 32)) (mod-eq_of_lt f)
    ∙ ap (λ (k : ℕ). text.BrTable n (k % 2 ^ 32)) size ∙ ap (λ (k : ℕ). text.BrTable n k) (mod-eq_of_lt g)

-- ---- a type use

call-said : (b : Bool) (d : BodyDraft) (u : UseDraft)
    → standing (writes (awaits b awaiting.Use d) u)
    ≡ said_as b (record (state_of d) { uses = d.uses ++ use_of u ∷ [] }) (text.CallIndirect (place_behind d.uses))
call-said true d u = refl
call-said false d u = refl

-- ---- the memory argument

access-said : (b : Bool) (o : MemOp) (align offset : Option ℕ) (d : BodyDraft)
    → standing (awaits b (awaiting.MemArg o align offset) d) ≡ said_as b (state_of d) (text.Access o align offset)
access-said true o align offset d = refl
access-said false o align offset d = refl

offset-said : (b : Bool) (o : MemOp) (d : BodyDraft) {us : List Said} {n : Option ℕ} → IsMemOffset us n
    → take_said (awaits b (awaiting.MemArg o None None) d) us ≡ awaits b (awaiting.MemArg o None n) d
offset-said b o d IsMemOffset.absent = refl
offset-said b o d (IsMemOffset.there e) =
    ap (λ (v : Value). offset_by (awaiting.MemArg o None None) v (awaits b (awaiting.MemArg o None None) d)) e

align-said : (b : Bool) (o : MemOp) (offset : Option ℕ) (lo hi : ℕ) (d : BodyDraft) {us : List Said} {n : Option ℕ}
    → IsMemAlign us n → Follow lo us hi
    → take_said (awaits b (awaiting.MemArg o None offset) d) us ≡ awaits b (awaiting.MemArg o n offset) d
align-said b o offset lo hi d IsMemAlign.absent f = refl
align-said b o offset lo hi d (IsMemAlign.there {e = e} h) f =
    ap (λ (v : Value). align_by (awaiting.MemArg o None offset) v (awaits b (awaiting.MemArg o None offset) d)) h
    ∙ ap (λ (test : Bool). if test then await (awaiting.MemArg o (Some e) offset) (awaits b
    (awaiting.MemArg o None offset) d) else awaits b (awaiting.MemArg o None offset) d)
    (lt-ltb e 256 (exponent-fits f.0 h))

-- ---- a constant

const-32 : (b : Bool) (n : ℕ) (d : BodyDraft)
    → standing (literal_by awaiting.Literal32 (Number n) (awaits b awaiting.Literal32 d))
    ≡ said_as b (state_of d) (text.I32Const (cast_signed w32 (n % 2 ^ 32)))
const-32 true n d = refl
const-32 false n d = refl

const-64 : (b : Bool) (n : ℕ) (d : BodyDraft)
    → standing (literal_by awaiting.Literal64 (Number n) (awaits b awaiting.Literal64 d))
    ≡ said_as b (state_of d) (text.I64Const (cast_signed w64 n))
const-64 true n d = refl
const-64 false n d = refl

-- ---- each instruction

pub plain-said : (places : Places) (b : Bool) (lo hi : ℕ) {r : Role} {us : List Said} {p : Plain} → IsPlain r us p
    → Follow lo us hi → hi ≤ 2 ^ 32 → (d : BodyDraft) → Fits places (standing d) (plain_rows p)
    → standing (begun b d us)
    ≡ said_as b (rows_added places (standing d) (plain_rows p)) (plain_as places p)
plain-said places b lo hi (IsPlain.simple_name {w = w} {o = o} n) f room d p =
    named b (op.Simple o) d w [] n ∙ simple-said b o w.token (settle_by d.awaiting d)
    ∙ same-said b (rows-none places (standing d)) refl
plain-said places b lo hi (IsPlain.index_name {w = w} {v = v} {o = o} {x = x} n i) f room d p =
    named b (op.Index o) d w (role.Index ⊳ v ∷ []) n
    ∙ index-said b o v (settle_by d.awaiting d)
    ∙ same-said b
    (same-rows (sym (append-nil (standing d).heads)) (sym (append-nil (standing d).uses))
    (stored-id (standing d).ids f.3.0 i) (sym (append-nil (standing d).labels)))
    (ap (text.Index o) (stored-operand places (standing d).ids f.3.0 i p.ids))
plain-said places b lo hi (IsPlain.br_table_name {w = w} {us = us} {xs = xs} {last = x} n l) f room d p =
    let s : State = standing d in
    let all = s.labels ++ map (operand_as places) (xs ++ x ∷ []) in
    let first = first-placed places.label_at (length s.labels) xs x p.labels in
    let size : length all ≡ length s.labels + suc (length xs) =
    length-append s.labels (map (operand_as places) (xs ++ x ∷ []))
    ∙ ap (λ (k : ℕ). length s.labels + k)
    (length-map (xs ++ x ∷ []) (operand_as places) ∙ length-append xs (x ∷ []) ∙ omega arith) in
    let few : suc (length xs) < 2 ^ 32 =
    omega (arith, labels-length l, follow-length (suc w.token) hi us f.3, room) in
    named b op.BrTable d w us n
    ∙ ap standing
    (labels-said places b (length s.labels) (suc w.token) hi (settle_by d.awaiting d) l f.3 s.ids s.labels p.ids)
    ∙ table-said b (length s.labels) (settle_by d.awaiting d) (s.ids ++ flat_map id_in (xs ++ x ∷ [])) all
    ∙ same-said b (same-rows (sym (append-nil s.heads)) (sym (append-nil s.uses)) refl refl)
    (counted (length s.labels) (length all) (suc (length xs)) size first.1 few
    ∙ ap (λ (k : ℕ). text.BrTable k (suc (length xs))) (sym first.0))
plain-said places b lo hi (IsPlain.call_indirect_name {w = w} {us = us} {u = u} n h) f room d p =
    let s : State = standing d in
    named b op.CallIndirect d w us n
    ∙ ap standing
    (use-said (suc w.token) hi h f.3 room (awaits b awaiting.Use (settle_by d.awaiting d)) user.CallIndirect w.token)
    ∙ call-said b (settle_by d.awaiting d) (written_as user.CallIndirect w.token u)
    ∙ same-said b (same-rows (sym (append-nil s.heads)) refl (sym (append-nil s.ids)) (sym (append-nil s.labels)))
    (ap text.CallIndirect (behind s.uses p.uses.1 ∙ sym p.uses.0))
plain-said places b lo hi
    (IsPlain.access_name {w = w} {o = o} n (IsMemArg.both {us = us} {vs = vs} {n = k} {e = e} a c)) f room d p =
    let fs = part (suc w.token) hi us vs f.3 in
    named b (op.Mem o) d w (us ++ vs) n
    ∙ ap standing
    (said-append (awaits b (awaiting.MemArg o None None) (settle_by d.awaiting d)) us vs
    ∙ ap (λ (x : BodyDraft). take_said x vs) (offset-said b o (settle_by d.awaiting d) a)
    ∙ align-said b o k fs.mid hi (settle_by d.awaiting d) c fs.last)
    ∙ access-said b o e k (settle_by d.awaiting d)
    ∙ same-said b (rows-none places (standing d)) refl
plain-said places b lo hi (IsPlain.i32_const_name {w = w} {v = v} {bits = bits} n h) f room d p =
    let value = bits-32 f.3.0 f.3.1 h in
    named b op.I32Const d w (role.Literal ⊳ v ∷ []) n
    ∙ ap (λ (x : Value). standing (literal_by awaiting.Literal32 x
    (awaits b awaiting.Literal32 (settle_by d.awaiting d)))) value.1
    ∙ const-32 b value.0 (settle_by d.awaiting d)
    ∙ same-said b (rows-none places (standing d)) (ap (λ (k : ℕ). text.I32Const (cast_signed w32 k)) value.2)
plain-said places b lo hi (IsPlain.i64_const_name {w = w} {v = v} {bits = bits} n h) f room d p =
    named b op.I64Const d w (role.Literal ⊳ v ∷ []) n
    ∙ ap (λ (x : Value). standing (literal_by awaiting.Literal64 x
    (awaits b awaiting.Literal64 (settle_by d.awaiting d)))) (bits-64 f.3.0 f.3.1 h)
    ∙ const-64 b bits (settle_by d.awaiting d)
    ∙ same-said b (rows-none places (standing d)) refl
