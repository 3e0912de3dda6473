-- What the tokens of heads, of `else` and of `end` add to a body.
use Rattle.std.proofs.Common.{◌≡◌, ℕ, suc, ◌<◌, nat_lt, Bool, true, false, List, [], ◌∷◌, ◌++◌, length, refl, sym, ap}
use Rattle.std.proofs.Common.{subst, ◌∙◌, arith, Option, Some, None}
use Rattle.std.specs.Prelude.{if◌then◌else◌}
use Rattle.std.proofs.lemmas.List.{append-nil}
use Rattle.wc_body.specs.declared.entry.Kind.{Kind}
use Rattle.wc_body.specs.declared.instr.BlockType.{BlockType}
use Rattle.wc_body.specs.declared.instr.BlockType.TheVariants as block_types
use Rattle.wc_body.specs.declared.instr.Instr.{Instr}
use Rattle.wc_body.specs.Standard.Nested.{Mark, otherwise, close, nesting_limit}
use Rattle.wc_body.specs.Standard.Draft.{Draft, step}
use Rattle.wc_body.specs.Standard.InstructionBytes.{FitsBlockType}
use Rattle.wc_syntax.specs.declared.role.Role.TheVariants as role
use Rattle.wc_surface.specs.declared.head.Head.{Head}
use Rattle.wc_surface.specs.declared.instr.TextInstr.{TextInstr}
use Rattle.wc_surface.specs.declared.type_use.TypeUse.{TypeUse}
use Rattle.wc_surface.specs.declared.type_use.User.TheVariants as user
use Rattle.wc_surface.specs.Standard.Marks.{begin_of}
use Rattle.wc_readback.specs.Grammar.Signs.{natural}
use Rattle.wc_readback.specs.Grammar.InstructionSigns.{block_signs}
use Rattle.wc_readback.specs.Grammar.Kept.{said_as, said_from}
use Rattle.wc_parse_code.specs.declared.body_draft.BodyDraft.{BodyDraft}
use Rattle.wc_parse_code.specs.Drafting.Words.{index_by, place_behind}
use Rattle.wc_parse_code.specs.Drafting.Uses.{started_use}
use Rattle.wc_parse_code.specs.Drafting.Heads.{head_of}
use Rattle.wc_parse_code.specs.Drafting.Saying.{settled}
use Rattle.wc_parse_code.specs.Drafting.Opening.{await_head, turn_by, end_by}
use Rattle.wc_readback.specs.Instructions.Words.{word_of, taken}
use Rattle.wc_readback.specs.Instructions.Bodies.{Spot, block_uses, head_type, behind_head, behind}
use Rattle.wc_readback.proofs.InstructionLemmas.Marks.{Holds, number, said-of}

-- one more head, and what it adds to the lists
one : (d e : BodyDraft) (k : Draft TextInstr ℕ) (s : Spot) (b : List ℕ) (kind : Kind) (m : Mark Instr BlockType)
    (t : BlockType)
    → Holds d k s b → (settled e).code ≡ step (settled d).code (begin_of kind (place_behind (settled d).heads))
    → (settled e).heads ≡ (settled d).heads ++ head_of s.token None (head_type (settled d).uses t) ∷ []
    → (settled e).uses ≡ (settled d).uses ++ block_uses s.token t → (settled e).ids ≡ (settled d).ids
    → (settled e).labels ≡ (settled d).labels → (settled e).held ≡ (settled d).held
    → (settled e).blocks ≡ place_behind (settled d).heads ∷ (settled d).blocks
    → Holds e (step k (begin_of kind (place_behind s.heads))) (behind_head s m t) (place_behind s.heads ∷ b)
one d e k s b kind m t h c hs us is ls ws bs = record {
  code_is = c ∙ (ap (λ (x : Draft TextInstr ℕ). step x (begin_of kind (place_behind (settled d).heads))) h.code_is
      ∙ ap (λ (x : List Head). step k (begin_of kind (place_behind x))) h.heads_is);
  heads_is = hs ∙ (ap (λ (x : List Head). x ++ head_of s.token None (head_type (settled d).uses t) ∷ []) h.heads_is
      ∙ ap (λ (x : List TypeUse). s.heads ++ head_of s.token None (head_type x t) ∷ []) h.uses_is);
  uses_is = us ∙ ap (λ (x : List TypeUse). x ++ block_uses s.token t) h.uses_is;
  ids_is = is ∙ h.ids_is;
  labels_is = ls ∙ h.labels_is;
  held_is = ws ∙ h.held_is;
  blocks_is = bs ∙ (ap (λ (x : List Head). place_behind x ∷ (settled d).blocks) h.heads_is
      ∙ ap (λ (x : List ℕ). place_behind s.heads ∷ x) h.blocks_is);
}

below-by : (n m : ℕ) (t : Bool) → nat_lt n m ≡ t → n < m → true ≡ t
below-by n m true e lt = refl
below-by n m false e lt = absurd (grind arith)

module _ (addresses : ℕ → ℕ × ℕ) where
  -- where a block, a loop or an if begins, if one more may be open
  abbrev begun : BodyDraft → ℕ → Kind → Bool → BodyDraft
  begun d token kind t = await_head token (record (settled d) {
    code = if t then step (settled d).code (begin_of kind (place_behind (settled d).heads)) else (settled d).code;
    blocks = place_behind (settled d).heads ∷ (settled d).blocks;
  })

  opened : (d : BodyDraft) (k : Draft TextInstr ℕ) (s : Spot) (b : List ℕ) (kind : Kind) (m : Mark Instr BlockType)
      (t : BlockType) → FitsBlockType t → Holds d k s b
      → Holds (taken addresses (begun d s.token kind true) (said_from (suc s.token) (block_signs t)))
      (step k (begin_of kind (place_behind s.heads))) (behind_head s m t) (place_behind s.heads ∷ b)
  opened d k s b kind m block_types.Empty fits h =
      one d _ k s b kind m block_types.Empty h refl refl (sym (append-nil _)) refl refl refl refl
  opened d k s b kind m (block_types.Value t) fits h =
      one d _ k s b kind m (block_types.Value t) h refl refl (sym (append-nil _)) refl refl refl refl
  opened d k s b kind m (block_types.Index n) fits h =
      let w = word_of addresses (said_as role.TypeIndex (suc (suc (suc s.token))) (natural role.TypeIndex n)) in
      let e = begun d s.token kind true in
      let P : Option ℕ → Type 0 = λ x. Holds (record e {
        written = record (started_use user.Block s.token) { index = Some (index_by x w) };
      }) (step k (begin_of kind (place_behind s.heads))) (behind_head s m (block_types.Index n)) (place_behind s.heads
      ∷ b) in
      subst P (sym (number n fits)) (one d _ k s b kind m (block_types.Index n) h refl refl refl refl refl refl refl)

  -- fewer than may be are open
  within : (d : BodyDraft) (k : Draft TextInstr ℕ) (s : Spot) (b : List ℕ) → Holds d k s b
      → length k.around < nesting_limit
      → true ≡ nat_lt (length (settled d).code.around) nesting_limit
  within d k s b h lt =
      below-by (length k.around) nesting_limit (nat_lt (length k.around) nesting_limit) refl lt
      ∙ ap (λ (x : Draft TextInstr ℕ). nat_lt (length x.around) nesting_limit) (sym h.code_is)

  pub begins : (d : BodyDraft) (k : Draft TextInstr ℕ) (s : Spot) (b : List ℕ) (kind : Kind) (m : Mark Instr BlockType)
      (t : BlockType) → FitsBlockType t → length k.around < nesting_limit → Holds d k s b
      → Holds (taken addresses (begun d s.token kind (nat_lt (length (settled d).code.around) nesting_limit))
      (said_from (suc s.token) (block_signs t)))
      (step k (begin_of kind (place_behind s.heads))) (behind_head s m t) (place_behind s.heads ∷ b)
  begins d k s b kind m t fits lt h =
      let P : Bool → Type 0 = λ x. Holds (taken addresses (begun d s.token kind x)
      (said_from (suc s.token) (block_signs t)))
      (step k (begin_of kind (place_behind s.heads))) (behind_head s m t) (place_behind s.heads ∷ b) in
      subst P (within d k s b h lt) (opened d k s b kind m t fits h)

  pub turns : (d : BodyDraft) (k : Draft TextInstr ℕ) (s : Spot) (p : ℕ) (b : List ℕ) → Holds d k s (p ∷ b)
      → Holds (said-of addresses d s otherwise) (step k otherwise) (behind s otherwise) (p ∷ b)
  turns d k s p b h =
      let P : List ℕ → Type 0 = λ x. Holds (turn_by x (settled d)) (step k otherwise) (behind s otherwise) (p ∷ b) in
      subst P (sym h.blocks_is) (record {
        code_is = ap (λ (x : Draft TextInstr ℕ). step x otherwise) h.code_is;
        heads_is = h.heads_is;
        uses_is = h.uses_is;
        ids_is = h.ids_is;
        labels_is = h.labels_is;
        held_is = h.held_is;
        blocks_is = h.blocks_is;
      })

  pub ends : (d : BodyDraft) (k : Draft TextInstr ℕ) (s : Spot) (p : ℕ) (b : List ℕ) → Holds d k s (p ∷ b)
      → Holds (said-of addresses d s close) (step k close) (behind s close) b
  ends d k s p b h =
      let P : List ℕ → Type 0 = λ x. Holds (end_by x (settled d)) (step k close) (behind s close) b in
      subst P (sym h.blocks_is) (record {
        code_is = ap (λ (x : Draft TextInstr ℕ). step x close) h.code_is;
        heads_is = h.heads_is;
        uses_is = h.uses_is;
        ids_is = h.ids_is;
        labels_is = h.labels_is;
        held_is = h.held_is;
        blocks_is = refl;
      })
