-- One more kept token takes nothing back of what was said.
use Rattle.std.proofs.Common.{◌≡◌, ℕ, zero, suc, Bool, true, false, List, [], ◌∷◌, ◌++◌, Option, Some, None}
use Rattle.std.proofs.Common.{refl, sym, ap, ◌∙◌, append_assoc, append-nil}
use Rattle.std.specs.Prelude.{map, nat_lt, if◌then◌else◌}
use Rattle.std.proofs.lemmas.List.{map-append}
use Rattle.wc_ops.specs.declared.op.Op.TheVariants as op
use Rattle.wc_ops.specs.declared.val_type.ValType.{ValType as ValueType}
use Rattle.wc_syntax.specs.declared.role.Role.{Role}
use Rattle.wc_syntax.specs.declared.role.Role.TheVariants as role
use Rattle.wc_symbols.specs.declared.symbol.Value.{Value}
use Rattle.wc_symbols.specs.declared.symbol.Value.TheVariants.{Number, Offset, Exponent, Instruction}
use Rattle.wc_surface.specs.declared.instr.TextInstr.{TextInstr}
use Rattle.wc_surface.specs.declared.head.Head.{Head}
use Rattle.wc_surface.specs.declared.head.TextBody.{TextBody}
use Rattle.wc_surface.specs.Standard.Identifiers.{Identifier}
use Rattle.wc_parse_code.specs.declared.awaiting.Awaiting.{Awaiting}
use Rattle.wc_parse_code.specs.declared.awaiting.Awaiting.TheVariants as awaiting
use Rattle.wc_parse_code.specs.declared.held.Held.{Held}
use Rattle.wc_parse_code.specs.declared.held.Held.TheVariants as held
use Rattle.wc_parse_code.specs.declared.body_draft.BodyDraft.{BodyDraft}
use Rattle.wc_parse_code.specs.declared.word.Word.{Word}
use Rattle.wc_parse_code.specs.Drafting.Words.{identifier_of, ids_by, ids_with, number_in}
use Rattle.wc_parse_code.specs.Drafting.Uses.{short_type}
use Rattle.wc_parse_code.specs.Drafting.Heads.{with_else_id, with_end_id}
use Rattle.wc_parse_code.specs.Drafting.Saying.{say_by, release_by, with_use, head_by, settle_by, settled}
use Rattle.wc_parse_code.specs.Drafting.Opening.{await, plain_by, begin_by, turn_by, end_by}
use Rattle.wc_parse_code.specs.Drafting.Immediates.{label_by, end_label_by, index_in, offset_by, align_by, literal_by}
use Rattle.wc_parse_code.specs.Drafting.Taking.{take, take_name}
use Rattle.wc_parse_code.specs.Drafting.Ending.{body_of, ended}
use Rattle.wc_parse_code.specs.Drafting.Growing.{Continues, begun_head, Grows}

-- ---- lists

same : {X : Type 0} {xs ys : List X} → ys ≡ xs → Continues xs ys
same {xs = xs} e = record { more = []; is = e ∙ sym (append-nil xs) }

behind : {X : Type 0} (xs : List X) (x : X) → Continues xs (xs ++ x ∷ [])
behind xs x = record { more = x ∷ []; is = refl }

further : {X : Type 0} {xs ys zs : List X} → Continues xs ys → Continues ys zs → Continues xs zs
further {X} {xs = xs} a b = record {
  more = a.more ++ b.more;
  is = b.is ∙ ap (λ (l : List X). l ++ b.more) a.is ∙ append_assoc xs a.more b.more;
}

-- ---- bodies

abbrev Grown : BodyDraft → BodyDraft → Type 0
Grown d e = Grows (body_of d) (body_of e)

kept : {a b : TextBody} → b.heads ≡ a.heads → b.uses ≡ a.uses → b.ids ≡ a.ids → b.labels ≡ a.labels → Grows a b
kept h u i l = record { heads = same (ap (map begun_head) h); uses = same u; ids = same i; labels = same l }

after : {a b c : TextBody} → Grows a b → Grows b c → Grows a c
after a b = record {
  heads = further a.heads b.heads;
  uses = further a.uses b.uses;
  ids = further a.ids b.ids;
  labels = further a.labels b.labels;
}

-- ---- what follows the last name

say-grows : (b : Bool) (d : BodyDraft) (i : TextInstr) → Grown d (say_by b d i)
say-grows true d i = kept refl refl refl refl
say-grows false d i = kept refl refl refl refl

with_use-grows : (d : BodyDraft) → Grown d (with_use d)
with_use-grows d = record { heads = same refl; uses = behind d.uses _; ids = same refl; labels = same refl }

one-head : (heads : List Head) (h : Head) → Continues (map begun_head heads) (map begun_head (heads ++ h ∷ []))
one-head heads h = record { more = begun_head h ∷ []; is = map-append begun_head heads (h ∷ []) }

head-grows : (short : Option (Option ValueType)) (label : Option Identifier) (d : BodyDraft)
    → Grown d (head_by short label d)
head-grows (Some t) label d =
    record { heads = one-head d.heads _; uses = same refl; ids = same refl; labels = same refl }
head-grows None label d =
    record { heads = one-head d.heads _; uses = behind d.uses _; ids = same refl; labels = same refl }

settle-grows : (a : Awaiting) (d : BodyDraft) → Grown d (settle_by a d)
settle-grows (awaiting.MemArg o align offset) d = say-grows d.waits d _
settle-grows (awaiting.Labels first) d = say-grows d.waits d _
settle-grows awaiting.Use d = after (with_use-grows d) (say-grows d.waits (with_use d) _)
settle-grows (awaiting.Head label) d = head-grows (short_type d.written) label d
settle-grows _ d = kept refl refl refl refl

settled-grows : (d : BodyDraft) → Grown d (settled d)
settled-grows d =
    after (settle-grows d.awaiting d) (kept refl refl refl refl)

pub ended-grows : (d : BodyDraft) → Grows (body_of d) (ended d)
ended-grows = settled-grows

-- ---- names

release-grows : (hs : List Held) (d : BodyDraft) → Grown d (release_by hs d)
release-grows [] d = kept refl refl refl refl
release-grows (held.Plain i ∷ hs) d = kept refl refl refl refl
release-grows (held.If h ∷ hs) d = kept refl refl refl refl

plain-grows : (b : Bool) (v : Value) (token : ℕ) (d : BodyDraft) → Grown d (plain_by v token (record d { waits = b }))
plain-grows true (Instruction (op.Simple o)) token d = kept refl refl refl refl
plain-grows false (Instruction (op.Simple o)) token d = kept refl refl refl refl
plain-grows b (Instruction (op.Index o)) token d = kept refl refl refl refl
plain-grows b (Instruction (op.Mem o)) token d = kept refl refl refl refl
plain-grows b (Instruction op.BrTable) token d = kept refl refl refl refl
plain-grows b (Instruction op.CallIndirect) token d = kept refl refl refl refl
plain-grows b (Instruction op.I32Const) token d = kept refl refl refl refl
plain-grows b (Instruction op.I64Const) token d = kept refl refl refl refl
plain-grows b _ token d = kept refl refl refl refl

begin-grows : (v : Value) (token : ℕ) (d : BodyDraft) → Grown d (begin_by v token d)
begin-grows (Instruction op.Block) token d = kept refl refl refl refl
begin-grows (Instruction op.Loop) token d = kept refl refl refl refl
begin-grows (Instruction op.If) token d = kept refl refl refl refl
begin-grows _ token d = kept refl refl refl refl

turn-grows : (hs : List ℕ) (d : BodyDraft) → Grown d (turn_by hs d)
turn-grows [] d = kept refl refl refl refl
turn-grows (h ∷ hs) d = kept refl refl refl refl

end-grows : (hs : List ℕ) (d : BodyDraft) → Grown d (end_by hs d)
end-grows [] d = kept refl refl refl refl
end-grows (h ∷ hs) d = kept refl refl refl refl

name-grows : (d : BodyDraft) (r : Role) (w : Word) → Grown d (take_name d r w)
name-grows d role.Plain w = plain-grows false w.symbol.value w.token d
name-grows d role.HeldPlain w = plain-grows true w.symbol.value w.token d
name-grows d role.Begin w = begin-grows w.symbol.value w.token d
name-grows d role.HeldBegin w = kept refl refl refl refl
name-grows d role.HeldEnd w = release-grows d.held d
name-grows d role.Then w = release-grows d.held d
name-grows d role.Else w = turn-grows d.blocks d
name-grows d role.End w = end-grows d.blocks d
name-grows d _ w = kept refl refl refl refl

-- ---- labels and immediates

label-grows : (a : Awaiting) (id : Identifier) (d : BodyDraft) → Grown d (label_by a id d)
label-grows (awaiting.Head label) id d = kept refl refl refl refl
label-grows _ id d = kept refl refl refl refl

else-begun : (heads : List Head) (h : ℕ) (id : Identifier)
    → map begun_head (with_else_id heads h id) ≡ map begun_head heads
else-begun [] h id = refl
else-begun (head ∷ heads) zero id = refl
else-begun (head ∷ heads) (suc h) id = ap (λ (hs : List Head). begun_head head ∷ hs) (else-begun heads h id)

end-begun : (heads : List Head) (h : ℕ) (id : Identifier)
    → map begun_head (with_end_id heads h id) ≡ map begun_head heads
end-begun [] h id = refl
end-begun (head ∷ heads) zero id = refl
end-begun (head ∷ heads) (suc h) id = ap (λ (hs : List Head). begun_head head ∷ hs) (end-begun heads h id)

end_label-grows : (a : Awaiting) (id : Identifier) (d : BodyDraft) → Grown d (end_label_by a id d)
end_label-grows (awaiting.ElseId h) id d =
    record { heads = same (else-begun d.heads h id); uses = same refl; ids = same refl; labels = same refl }
end_label-grows (awaiting.EndId h) id d =
    record { heads = same (end-begun d.heads h id); uses = same refl; ids = same refl; labels = same refl }
end_label-grows _ id d = kept refl refl refl refl

ids-grow : (n : Option ℕ) (w : Word) (ids : List Identifier) → Continues ids (ids_by n w ids)
ids-grow (Some n) w ids = same refl
ids-grow None w ids = behind ids _

index-said : (b : Bool) (w : Word) (d : BodyDraft) (i : TextInstr)
    → Grown d (say_by b (record d { ids = ids_with w d.ids }) i)
index-said true w d i = record {
  heads = same refl;
  uses = same refl;
  ids = ids-grow (number_in w.symbol.value) w d.ids;
  labels = same refl;
}
index-said false w d i = record {
  heads = same refl;
  uses = same refl;
  ids = ids-grow (number_in w.symbol.value) w d.ids;
  labels = same refl;
}

index-grows : (a : Awaiting) (w : Word) (d : BodyDraft) → Grown d (index_in a w d)
index-grows (awaiting.Index o) w d = index-said d.waits w d _
index-grows (awaiting.Labels first) w d = record {
  heads = same refl;
  uses = same refl;
  ids = ids-grow (number_in w.symbol.value) w d.ids;
  labels = behind d.labels _;
}
index-grows _ w d = kept refl refl refl refl

offset-grows : (a : Awaiting) (v : Value) (d : BodyDraft) → Grown d (offset_by a v d)
offset-grows (awaiting.MemArg o align offset) (Offset n) d = kept refl refl refl refl
offset-grows _ v d = kept refl refl refl refl

align-grows : (a : Awaiting) (v : Value) (d : BodyDraft) → Grown d (align_by a v d)
align-grows (awaiting.MemArg o align offset) (Exponent e) d =
    elim (nat_lt e 256) as (λ b. Grown d (if b then await (awaiting.MemArg o (Some e) offset) d else d))
    [ true ↦ kept refl refl refl refl | false ↦ kept refl refl refl refl ]
align-grows _ v d = kept refl refl refl refl

literal-grows : (a : Awaiting) (v : Value) (d : BodyDraft) → Grown d (literal_by a v d)
literal-grows awaiting.Literal32 (Number n) d = say-grows d.waits d _
literal-grows awaiting.Literal64 (Number n) d = say-grows d.waits d _
literal-grows _ v d = kept refl refl refl refl

-- ---- one more kept token

pub take-grows : (d : BodyDraft) (r : Role) (w : Word) → Grows (body_of d) (body_of (take d r w))
take-grows d role.Label w = label-grows d.awaiting (identifier_of w) d
take-grows d role.EndLabel w = end_label-grows d.awaiting (identifier_of w) d
take-grows d role.Index w = index-grows d.awaiting w d
take-grows d role.MemOffset w = offset-grows d.awaiting w.symbol.value d
take-grows d role.MemAlign w = align-grows d.awaiting w.symbol.value d
take-grows d role.Literal w = literal-grows d.awaiting w.symbol.value d
take-grows d role.TypeIndex w = kept refl refl refl refl
take-grows d role.ParamId w = kept refl refl refl refl
take-grows d role.ParamType w = kept refl refl refl refl
take-grows d role.ResultType w = kept refl refl refl refl
take-grows d role.Plain w = after (settled-grows d) (name-grows (settled d) role.Plain w)
take-grows d role.HeldPlain w = after (settled-grows d) (name-grows (settled d) role.HeldPlain w)
take-grows d role.Begin w = after (settled-grows d) (name-grows (settled d) role.Begin w)
take-grows d role.HeldBegin w = after (settled-grows d) (name-grows (settled d) role.HeldBegin w)
take-grows d role.HeldEnd w = after (settled-grows d) (name-grows (settled d) role.HeldEnd w)
take-grows d role.Then w = after (settled-grows d) (name-grows (settled d) role.Then w)
take-grows d role.Else w = after (settled-grows d) (name-grows (settled d) role.Else w)
take-grows d role.End w = after (settled-grows d) (name-grows (settled d) role.End w)
take-grows d _ w = settled-grows d
