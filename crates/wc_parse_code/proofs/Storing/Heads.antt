-- A head, once it is said, is stored.
use Rattle.std.proofs.Common.{◌≡◌, ℕ, ◌≤◌, ◌^◌, List, [], ◌∷◌, ◌++◌, Option, Some, None, refl, sym, ap, ◌∙◌}
use Rattle.std.proofs.Common.{append-nil}
use Rattle.std.specs.Prelude.{option_map}
use Rattle.wc_ops.specs.declared.val_type.ValType.{ValType as ValueType}
use Rattle.wc_syntax.specs.declared.role.Role.TheVariants as role
use Rattle.wc_surface.specs.declared.head.HeadType.TheVariants.{Use}
use Rattle.wc_surface.specs.declared.type_use.User.TheVariants as user
use Rattle.wc_surface.specs.Standard.Identifiers.{Identifier}
use Rattle.wc_surface.specs.Standard.Written.TypeUses.{TypeUse}
use Rattle.wc_surface.specs.Standard.Written.Instructions.{BlockType}
use Rattle.wc_parse_code.specs.declared.awaiting.Awaiting.TheVariants as awaiting
use Rattle.wc_parse_code.specs.declared.body_draft.BodyDraft.{BodyDraft}
use Rattle.wc_parse_code.specs.Standard.Tokens.{KeptToken}
use Rattle.wc_parse_code.specs.Drafting.Uses.{short_by, started_use}
use Rattle.wc_parse_code.specs.Drafting.Heads.{head_of}
use Rattle.wc_parse_code.specs.Drafting.Saying.{complete, head_by}
use Rattle.wc_parse_code.specs.Drafting.Opening.{await_head}
use Rattle.wc_parse_code.specs.Standard.Productions.Tokens.{Said, IsId, bytes}
use Rattle.wc_parse_code.specs.Standard.Productions.TypeUses.{IsLong, by_index, by_param, by_results}
use Rattle.wc_parse_code.specs.Standard.Productions.TypeUses.{IsBlockType, no_type, one_type, typed}
use Rattle.wc_parse_code.specs.Standard.Productions.Instructions.{IsHead, head}
use Rattle.wc_parse_code.specs.Drafting.Following.{take_said}
use Rattle.wc_parse_code.specs.Stored.TypeUses.{index_as}
use Rattle.wc_parse_code.specs.Stored.Bodies.{Places}
use Rattle.wc_parse_code.proofs.Storing.Ordered.Following.{Follow, said-append, part}
use Rattle.wc_parse_code.proofs.Storing.Words.{behind}
use Rattle.wc_parse_code.proofs.Storing.Ordered.Rows.{head_rows}
use Rattle.wc_parse_code.proofs.Storing.States.{state_of, standing, rows_added, same-rows, Fits}
use Rattle.wc_parse_code.proofs.Storing.TypeUses.{writes, written_as, types_of, use-said}

-- a head is being written, with this label
abbrev heads : BodyDraft → Option Identifier → BodyDraft
heads d label = record d { awaiting = awaiting.Head label }

label-said : (d : BodyDraft) (token : ℕ) {us : List Said} {label : Option Identifier} → IsId role.Label us label
    → take_said (await_head token d) us ≡ writes (heads d label) (started_use user.Block token)
label-said d token IsId.absent = refl
label-said d token (IsId.there (bytes e)) = refl

-- what is no short form has none
long-form : {u : TypeUse} → IsLong u
    → short_by (option_map index_as u.index) (types_of u.signature.params) u.signature.results ≡ None
long-form by_index = refl
long-form (by_param {i = None}) = refl
long-form (by_param {i = Some x}) = refl
long-form (by_results {i = None} {ps = []}) = refl
long-form (by_results {i = None} {ps = p ∷ ps}) = refl
long-form (by_results {i = Some x}) = refl

-- one head more, and its type use where it has one
pub head-said : (places : Places) (lo hi : ℕ) (w : KeptToken) {us : List Said} {label : Option Identifier}
    {ty : BlockType} → IsHead us label ty → Follow lo us hi → hi ≤ 2 ^ 32 → (d : BodyDraft)
    → Fits places (state_of d) (head_rows (head w label ty None None))
    → standing (take_said (await_head w.token d) us)
    ≡ rows_added places (state_of d) (head_rows (head w label ty None None))
head-said places lo hi w (IsHead.both {us = us} {vs = vs} {label = label} i t) f room d p =
    let fs = part lo hi us vs f in
    ap standing
    (said-append (await_head w.token d) us vs ∙ ap (λ (x : BodyDraft). take_said x vs) (label-said d w.token i))
    ∙ typed-said fs.mid fs.last t p
  where
    typed-said : (mid : ℕ) {vs : List Said} {ty : BlockType} → Follow mid vs hi → IsBlockType vs ty
        → Fits places (state_of d) (head_rows (head w label ty None None))
        → standing (take_said (writes (heads d label) (started_use user.Block w.token)) vs)
        ≡ rows_added places (state_of d) (head_rows (head w label ty None None))
    typed-said mid g (no_type h) q =
        ap standing (use-said mid hi h g room (heads d label) user.Block w.token)
        ∙ same-rows refl (sym (append-nil d.uses)) (sym (append-nil d.ids)) (sym (append-nil d.labels))
    typed-said mid g (one_type h) q =
        ap standing (use-said mid hi h g room (heads d label) user.Block w.token)
        ∙ same-rows refl (sym (append-nil d.uses)) (sym (append-nil d.ids)) (sym (append-nil d.labels))
    typed-said mid g (typed {u = u} h l) q =
        ap standing (use-said mid hi h g room (heads d label) user.Block w.token)
        ∙ ap (λ (s : Option (Option ValueType)). state_of (complete (head_by s label
        (writes (heads d label) (written_as user.Block w.token u))))) (long-form l)
        ∙ same-rows
        (ap (λ (n : ℕ). d.heads ++ head_of w.token label (Use n) ∷ []) (behind d.uses q.uses.1 ∙ sym q.uses.0))
        refl (sym (append-nil d.ids)) (sym (append-nil d.labels))
