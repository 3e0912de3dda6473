-- One more kept token adds at most one to what was said.
use Rattle.std.proofs.Common.{◌≡◌, ℕ, ◌+◌, ◌≤◌, Bool, true, false, List, [], ◌∷◌, length, Option, Some, None}
use Rattle.std.proofs.Common.{refl, arith}
use Rattle.std.specs.Prelude.{sum_by, nat_lt, if◌then◌else◌}
use Rattle.std.proofs.lemmas.List.{length-append}
use Rattle.std.proofs.lemmas.List.Sums.{sum_by-append}
use Rattle.wc_ops.specs.declared.op.Op.TheVariants as op
use Rattle.wc_ops.specs.declared.val_type.ValType.{ValType as ValueType}
use Rattle.wc_syntax.specs.declared.role.Role.{Role}
use Rattle.wc_syntax.specs.declared.role.Role.TheVariants as role
use Rattle.wc_symbols.specs.declared.symbol.Value.{Value}
use Rattle.wc_symbols.specs.declared.symbol.Value.TheVariants.{Number, Offset, Exponent, Instruction, ValType}
use Rattle.wc_surface.specs.declared.instr.TextInstr.{TextInstr}
use Rattle.wc_surface.specs.Standard.Identifiers.{Identifier}
use Rattle.wc_surface.specs.Standard.Sizes.{use_size, body_size}
use Rattle.wc_parse_code.specs.declared.awaiting.Awaiting.{Awaiting}
use Rattle.wc_parse_code.specs.declared.awaiting.Awaiting.TheVariants as awaiting
use Rattle.wc_parse_code.specs.declared.held.Held.{Held}
use Rattle.wc_parse_code.specs.declared.held.Held.TheVariants as held
use Rattle.wc_parse_code.specs.declared.body_draft.BodyDraft.{BodyDraft}
use Rattle.wc_parse_code.specs.declared.use_draft.UseDraft.{UseDraft}
use Rattle.wc_parse_code.specs.declared.word.Word.{Word}
use Rattle.wc_parse_code.specs.Drafting.Words.{identifier_of}
use Rattle.wc_parse_code.specs.Drafting.Uses.{take_use, with_param, with_result, use_of, short_type}
use Rattle.wc_parse_code.specs.Drafting.Saying.{say_by, release_by, head_by, settle_by, settled, with_use}
use Rattle.wc_parse_code.specs.Drafting.Opening.{await, plain_by, begin_by, turn_by, end_by}
use Rattle.wc_parse_code.specs.Drafting.Immediates.{label_by, end_label_by, index_in, offset_by, align_by, literal_by}
use Rattle.wc_parse_code.specs.Drafting.Taking.{take, take_name}
use Rattle.wc_parse_code.specs.Drafting.Ending.{ended}
use Rattle.wc_parse_code.specs.Drafting.Sizes.{written_size, said_size}

-- type uses

with_param-size : (u : UseDraft) (v : Value) → length (with_param u v).params ≤ length u.params + 1
with_param-size u (ValType t) = omega (arith, length-append u.params (t ∷ []))
with_param-size u _ = omega arith

with_result-size : (u : UseDraft) (v : Value) → (with_result u v).params ≡ u.params
with_result-size u (ValType t) = refl
with_result-size u _ = refl

pub take_use-size : (u : UseDraft) (r : Role) (w : Word) → length (take_use u r w).params ≤ length u.params + 1
take_use-size u role.ParamType w = with_param-size u w.symbol.value
take_use-size u role.ResultType w = rw (with_result-size u w.symbol.value) (omega arith)
take_use-size u _ w = omega arith

-- bodies

say-size : (b : Bool) (d : BodyDraft) (i : TextInstr) → said_size (say_by b d i) ≡ said_size d
say-size true d i = refl
say-size false d i = refl

release-size : (hs : List Held) (d : BodyDraft) → said_size (release_by hs d) ≡ said_size d
release-size [] d = refl
release-size (held.Plain i ∷ hs) d = refl
release-size (held.If h ∷ hs) d = refl

with_use-size : (d : BodyDraft)
    → sum_by use_size (with_use d).uses ≡ sum_by use_size d.uses + use_size (use_of d.written)
with_use-size d = omega (arith, sum_by-append use_size d.uses (use_of d.written ∷ []))

head-size : (short : Option (Option ValueType)) (label : Option Identifier) (d : BodyDraft)
    → sum_by use_size (head_by short label d).uses ≤ sum_by use_size d.uses + use_size (use_of d.written)
head-size (Some t) label d = omega arith
head-size None label d = omega (arith, with_use-size d)

say-uses : (b : Bool) (d : BodyDraft) (i : TextInstr) → (say_by b d i).uses ≡ d.uses
say-uses true d i = refl
say-uses false d i = refl

settle-size : (a : Awaiting) (d : BodyDraft)
    → sum_by use_size (settle_by a d).uses ≤ sum_by use_size d.uses + written_size a d.written
settle-size (awaiting.MemArg o align offset) d = rw (say-uses d.waits d _) (omega arith)
settle-size (awaiting.Labels first) d = rw (say-uses d.waits d _) (omega arith)
settle-size awaiting.Use d = rw (say-uses d.waits (with_use d) _) (omega (arith, with_use-size d))
settle-size (awaiting.Head label) d = head-size (short_type d.written) label d
settle-size _ d = omega arith

pub settled-size : (d : BodyDraft) → said_size (settled d) ≤ said_size d
settled-size d = omega (arith, settle-size d.awaiting d)

plain-size : (v : Value) (token : ℕ) (d : BodyDraft) → said_size (plain_by v token d) ≤ said_size d + 1
plain-size (Instruction (op.Simple o)) token d = rw (say-size d.waits d _) (omega arith)
plain-size (Instruction op.CallIndirect) token d = omega arith
plain-size _ token d = omega arith

begin-size : (v : Value) (token : ℕ) (d : BodyDraft) → said_size (begin_by v token d) ≤ said_size d + 1
begin-size (Instruction op.Block) token d = omega arith
begin-size (Instruction op.Loop) token d = omega arith
begin-size (Instruction op.If) token d = omega arith
begin-size _ token d = omega arith

turn-size : (hs : List ℕ) (d : BodyDraft) → said_size (turn_by hs d) ≤ said_size d + 1
turn-size [] d = omega arith
turn-size (h ∷ hs) d = omega arith

end-size : (hs : List ℕ) (d : BodyDraft) → said_size (end_by hs d) ≤ said_size d + 1
end-size [] d = omega arith
end-size (h ∷ hs) d = omega arith

name-size : (d : BodyDraft) (r : Role) (w : Word) → said_size (take_name d r w) ≤ said_size d + 1
name-size d role.Plain w = plain-size w.symbol.value w.token (record d { waits = false })
name-size d role.HeldPlain w = plain-size w.symbol.value w.token (record d { waits = true })
name-size d role.Begin w = begin-size w.symbol.value w.token d
name-size d role.HeldBegin w = omega arith
name-size d role.HeldEnd w = rw (release-size d.held d) (omega arith)
name-size d role.Then w = rw (release-size d.held d) (omega arith)
name-size d role.Else w = turn-size d.blocks d
name-size d role.End w = end-size d.blocks d
name-size d _ w = omega arith

use-size : (d : BodyDraft) (a : Awaiting) (r : Role) (w : Word)
    → written_size a (take_use d.written r w) ≤ written_size a d.written + 1
use-size d awaiting.Use r w = omega (arith, take_use-size d.written r w)
use-size d (awaiting.Head label) r w = omega (arith, take_use-size d.written r w)
use-size d _ r w = omega arith

label-size : (a : Awaiting) (id : Identifier) (d : BodyDraft) → d.awaiting ≡ a
    → said_size (label_by a id d) ≤ said_size d + 1
label-size (awaiting.Head label) id d e = rw e (omega arith)
label-size _ id d e = omega arith

end_label-size : (a : Awaiting) (id : Identifier) (d : BodyDraft) → said_size (end_label_by a id d) ≤ said_size d + 1
end_label-size (awaiting.ElseId h) id d = omega arith
end_label-size (awaiting.EndId h) id d = omega arith
end_label-size _ id d = omega arith

index-size : (a : Awaiting) (w : Word) (d : BodyDraft) → said_size (index_in a w d) ≤ said_size d + 1
index-size (awaiting.Index o) w d = rw (say-uses d.waits _ _) (omega arith)
index-size (awaiting.Labels first) w d = omega arith
index-size _ w d = omega arith

offset-size : (a : Awaiting) (v : Value) (d : BodyDraft) → said_size (offset_by a v d) ≤ said_size d + 1
offset-size (awaiting.MemArg o align offset) (Offset n) d = omega arith
offset-size _ v d = omega arith

align-size : (a : Awaiting) (v : Value) (d : BodyDraft) → said_size (align_by a v d) ≤ said_size d + 1
align-size (awaiting.MemArg o align offset) (Exponent e) d =
    elim (nat_lt e 256)
    as (λ b. said_size (if b then await (awaiting.MemArg o (Some e) offset) d else d) ≤ said_size d + 1)
    [ true ↦ omega arith | false ↦ omega arith ]
align-size _ v d = omega arith

literal-size : (a : Awaiting) (v : Value) (d : BodyDraft) → said_size (literal_by a v d) ≤ said_size d + 1
literal-size awaiting.Literal32 (Number n) d = rw (say-uses d.waits d _) (omega arith)
literal-size awaiting.Literal64 (Number n) d = rw (say-uses d.waits d _) (omega arith)
literal-size _ v d = omega arith

pub take-size : (d : BodyDraft) (r : Role) (w : Word) → said_size (take d r w) ≤ said_size d + 1
take-size d role.Label w = label-size d.awaiting (identifier_of w) d refl
take-size d role.EndLabel w = end_label-size d.awaiting (identifier_of w) d
take-size d role.Index w = index-size d.awaiting w d
take-size d role.MemOffset w = offset-size d.awaiting w.symbol.value d
take-size d role.MemAlign w = align-size d.awaiting w.symbol.value d
take-size d role.Literal w = literal-size d.awaiting w.symbol.value d
take-size d role.TypeIndex w = omega (arith, use-size d d.awaiting role.TypeIndex w)
take-size d role.ParamId w = omega (arith, use-size d d.awaiting role.ParamId w)
take-size d role.ParamType w = omega (arith, use-size d d.awaiting role.ParamType w)
take-size d role.ResultType w = omega (arith, use-size d d.awaiting role.ResultType w)
take-size d role.Plain w = omega (arith, name-size (settled d) role.Plain w, settled-size d)
take-size d role.HeldPlain w = omega (arith, name-size (settled d) role.HeldPlain w, settled-size d)
take-size d role.Begin w = omega (arith, name-size (settled d) role.Begin w, settled-size d)
take-size d role.HeldBegin w = omega (arith, name-size (settled d) role.HeldBegin w, settled-size d)
take-size d role.HeldEnd w = omega (arith, name-size (settled d) role.HeldEnd w, settled-size d)
take-size d role.Then w = omega (arith, name-size (settled d) role.Then w, settled-size d)
take-size d role.Else w = omega (arith, name-size (settled d) role.Else w, settled-size d)
take-size d role.End w = omega (arith, name-size (settled d) role.End w, settled-size d)
take-size d _ w = omega (arith, settled-size d)

pub ended-size : (d : BodyDraft) → body_size (ended d) ≤ said_size d
ended-size d = omega (arith, settle-size d.awaiting d)
