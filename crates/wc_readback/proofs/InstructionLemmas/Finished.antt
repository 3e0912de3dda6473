-- The body that printed instructions say.
use Rattle.std.proofs.Common.{◌≡◌, ℕ, List, [], refl, ap, ◌∙◌, arith}
use Rattle.std.proofs.lemmas.List.{append-nil}
use Rattle.wc_body.specs.declared.instr.BlockType.{BlockType}
use Rattle.wc_body.specs.declared.instr.Instr.{Instr}
use Rattle.wc_body.specs.Standard.Nested.{Code, empty}
use Rattle.wc_body.specs.Standard.Draft.{Draft, draft, whole}
use Rattle.wc_body.specs.Standard.InstructionBytes.{FitsExpr}
use Rattle.wc_surface.specs.declared.head.Head.{Head}
use Rattle.wc_surface.specs.declared.head.TextBody.{TextBody}
use Rattle.wc_surface.specs.declared.instr.Operand.{Operand}
use Rattle.wc_surface.specs.declared.instr.TextInstr.{TextInstr}
use Rattle.wc_surface.specs.declared.type_use.TypeUse.{TypeUse}
use Rattle.wc_surface.specs.Standard.Identifiers.{Identifier}
use Rattle.wc_readback.specs.Grammar.Signs.{Sign}
use Rattle.wc_readback.specs.Grammar.InstructionSigns.{code_signs}
use Rattle.wc_readback.specs.Grammar.Kept.{said_from}
use Rattle.wc_readback.proofs.GrammarLemmas.Codes.{tree, flat-same}
use Rattle.wc_parse_code.specs.declared.body_draft.BodyDraft.{BodyDraft}
use Rattle.wc_parse_code.specs.Drafting.Saying.{settled}
use Rattle.wc_parse_code.specs.Drafting.Ending.{nothing_said, all_closed, ended}
use Rattle.wc_readback.specs.Instructions.Words.{taken}
use Rattle.wc_readback.specs.Instructions.Bodies.{Spot, start, behind_code, text_code, text_body}
use Rattle.wc_readback.proofs.InstructionLemmas.Marks.{Holds}
use Rattle.wc_readback.proofs.InstructionLemmas.Telling.{tells}

-- a body of these parts
abbrev made : Draft TextInstr ℕ → List Head → List TypeUse → List Identifier → List Operand → TextBody
made k hs us is ls =
    record { code = all_closed k.around k.last; heads = hs; uses = us; ids = is; labels = ls }

finished : (d : BodyDraft) (k : Draft TextInstr ℕ) (s : Spot) (b : List ℕ) → Holds d k s b
    → ended d ≡ made k s.heads s.uses [] s.labels
finished d k s b h =
    ap (λ (x : Draft TextInstr ℕ). made x (settled d).heads (settled d).uses (settled d).ids (settled d).labels)
    h.code_is
    ∙ (ap (λ (x : List Head). made k x (settled d).uses (settled d).ids (settled d).labels) h.heads_is
    ∙ (ap (λ (x : List TypeUse). made k s.heads x (settled d).ids (settled d).labels) h.uses_is
    ∙ (ap (λ (x : List Identifier). made k s.heads s.uses x (settled d).labels) h.ids_is
    ∙ ap (λ (x : List Operand). made k s.heads s.uses [] x) h.labels_is)))

nothing-holds : (token : ℕ) → Holds nothing_said (whole empty) (start token) []
nothing-holds token = record {
  code_is = refl;
  heads_is = refl;
  uses_is = refl;
  ids_is = refl;
  labels_is = refl;
  held_is = refl;
  blocks_is = refl;
}

pub told-body : (addresses : ℕ → ℕ × ℕ) (token : ℕ) (code : Code Instr BlockType) → FitsExpr code
    → ended (taken addresses nothing_said (said_from token (code_signs code))) ≡ text_body token code
told-body addresses token code fits =
    ap (λ (x : List Sign). ended (taken addresses nothing_said (said_from token x))) (flat-same code []
    ∙ append-nil (tree code))
    ∙ finished _ (draft [] (text_code (start token) code)) (behind_code (start token) code) []
    (tells addresses nothing_said [] empty (start token) [] code fits.0 (let le = fits.1 in
    omega (arith, le)) (nothing-holds token))
