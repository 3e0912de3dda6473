-- The heads of blocks, loops and ifs (Core 1.0, 6.5.2; Core 2.0, 6.5.2). A place at which the body has no head stands
-- for no label and no type.
use Rattle.std.specs.Prelude.{ℕ, List, [], ◌∷◌, ◌++◌, Option, Some, None, slice_get, if◌then◌else◌}
use Rattle.wc_body.specs.declared.instr.BlockType.{BlockType}
use Rattle.wc_body.specs.declared.instr.BlockType.TheVariants.{Empty, Value, Index}
use Rattle.wc_surface.specs.Standard.Identifiers.{Identifier}
use Rattle.wc_surface.specs.declared.head.Head.{Head}
use Rattle.wc_surface.specs.declared.head.HeadType.{HeadType}
use Rattle.wc_surface.specs.declared.head.HeadType.TheVariants.{Short, Use}
use Rattle.wc_surface.specs.declared.head.TextBody.{TextBody}
use Rattle.wc_spaces.specs.Standard.Spaces.{is_named}
use Rattle.wc_spaces.specs.declared.noted.Fault.{Fault}
use Rattle.wc_resolve_code.specs.declared.why.NameWhy.{NameWhy}
use Rattle.wc_resolve_code.specs.declared.why.NameWhy.TheVariants.{LabelDiffers}
use Rattle.wc_resolve_code.specs.Standard.Contexts.{Declared, Context}
use Rattle.wc_resolve_code.specs.Standard.Operands.{fault}
use Rattle.wc_resolve_code.specs.Standard.Instructions.{type_at}

-- the bytes of an identifier
abbrev pub text_in : Option Identifier → Option (List ℕ)
text_in None = None
text_in (Some id) = Some id.text

-- the label of a head
abbrev pub label_in : Option Head → Option (List ℕ)
label_in None = None
label_in (Some h) = text_in h.label

-- the labels inside the block of this head, the innermost first (6.5.1)
abbrev pub enter : TextBody → Declared → ℕ → Declared
enter b labels place = label_in (slice_get b.heads place) ∷ labels

-- the type of a block, from what is written
abbrev pub type_of : Context → HeadType → BlockType
type_of c (Short None) = Empty
type_of c (Short (Some t)) = Value t
type_of c (Use place) = Index (type_at c place)

-- where there is no head, none
abbrev pub type_in : Context → Option Head → BlockType
type_in c None = Empty
type_in c (Some h) = type_of c h.ty

-- the type of the block whose head has this place
abbrev pub resolved_head : Context → TextBody → Declared → ℕ → BlockType
resolved_head c b labels place = type_in c (slice_get b.heads place)

-- the fault of an identifier behind `else` or `end` that isn't the label
abbrev pub differing : Option Identifier → Option Identifier → List (Fault NameWhy)
differing label None = []
differing label (Some id) = if is_named id.text (text_in label) then [] else fault id.token LabelDiffers

-- those of both
abbrev pub differing_ids : Head → List (Fault NameWhy)
differing_ids h = differing h.label h.else_id ++ differing h.label h.end_id

-- where there is no head, none
abbrev pub faults_in : Option Head → List (Fault NameWhy)
faults_in None = []
faults_in (Some h) = differing_ids h

-- what is wrong with the head of this place
abbrev pub head_faults : TextBody → ℕ → List (Fault NameWhy)
head_faults b place = faults_in (slice_get b.heads place)
