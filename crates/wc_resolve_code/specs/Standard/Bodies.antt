-- The instructions of a body (Core 1.0, 6.5.8) with numbers in place of identifiers, labels and type uses, and what is
-- wrong with its names.
use Rattle.std.specs.Prelude.{ℕ, List, []}
use Rattle.std.specs.List.{flat_map}
use Rattle.wc_body.specs.declared.instr.Instr.{Instr}
use Rattle.wc_body.specs.declared.instr.BlockType.{BlockType}
use Rattle.wc_body.specs.Standard.Nested.{Code, Mark, plain, begin, begin_if, otherwise, close}
use Rattle.wc_body.specs.Standard.Placed.{placed, mapped}
use Rattle.wc_surface.specs.declared.instr.TextInstr.{TextInstr}
use Rattle.wc_surface.specs.declared.head.TextBody.{TextBody}
use Rattle.wc_spaces.specs.declared.noted.Fault.{Fault}
use Rattle.wc_resolve_code.specs.declared.why.NameWhy.{NameWhy}
use Rattle.wc_resolve_code.specs.Standard.Contexts.{Declared, Context}
use Rattle.wc_resolve_code.specs.Standard.Instructions.{resolved_instr, instr_faults}
use Rattle.wc_resolve_code.specs.Standard.Heads.{enter, resolved_head, head_faults}

-- each instruction and each head on its own, inside the labels around it
abbrev pub resolved : Context → TextBody → Code Instr BlockType
resolved c b = mapped (enter b) (resolved_instr c b) (resolved_head c b) [] b.code

-- what is wrong with an instruction or a head inside these labels
abbrev pub mark_faults : Context → TextBody → Declared × Mark TextInstr ℕ → List (Fault NameWhy)
mark_faults c b (labels, plain i) = instr_faults c b labels i
mark_faults c b (labels, begin r head) = head_faults b head
mark_faults c b (labels, begin_if head) = head_faults b head
mark_faults c b (labels, otherwise) = []
mark_faults c b (labels, close) = []

-- what is wrong with the names of a body, one after another in the order of the binary format
abbrev pub body_faults : Context → TextBody → List (Fault NameWhy)
body_faults c b = flat_map (mark_faults c b) (placed (enter b) [] b.code)
