-- What is open behind the kept tokens of a derivation.
use Rattle.std.specs.Prelude.{◌≡◌, ℕ, List}
use Rattle.wc_body.specs.Standard.Draft.{Frame}
use Rattle.wc_surface.specs.declared.instr.TextInstr.{TextInstr}
use Rattle.wc_parse_code.specs.declared.held.Held.{Held}
use Rattle.wc_parse_code.specs.declared.body_draft.BodyDraft.{BodyDraft}
use Rattle.wc_parse_code.specs.Drafting.Saying.{settled}

-- what is open, what waits, and the heads of what is open, once nothing can follow the last name
pub record Leaves (d : BodyDraft) (frames : List (Frame TextInstr ℕ)) (waiting : List Held) (places : List ℕ) : Type 0
  where
    pub around : (settled d).code.around ≡ frames
    pub held : (settled d).held ≡ waiting
    pub blocks : (settled d).blocks ≡ places
