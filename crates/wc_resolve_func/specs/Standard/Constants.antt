-- First values of globals and offsets of segments (Core 1.0, 6.6.8, 6.6.11 and 6.6.12): instructions without locals.
use Rattle.std.specs.Prelude.{List, []}
use Rattle.wc_body.specs.declared.instr.Instr.{Instr}
use Rattle.wc_body.specs.declared.instr.BlockType.{BlockType}
use Rattle.wc_body.specs.Standard.Nested.{Code}
use Rattle.wc_spaces.specs.declared.noted.Fault.{Fault}
use Rattle.wc_surface.specs.declared.head.TextBody.{TextBody}
use Rattle.wc_surface.specs.declared.field.Field.{Field}
use Rattle.wc_resolve_code.specs.declared.why.NameWhy.{NameWhy}
use Rattle.wc_resolve_code.specs.Standard.Bodies.{resolved, body_faults}
use Rattle.wc_resolve_func.specs.Standard.Contexts.{context_of}

-- its instructions, with numbers in place of identifiers
abbrev pub constant_of : List Field → TextBody → Code Instr BlockType
constant_of fs b = resolved (context_of fs [] b) b

-- what is wrong with its names
abbrev pub constant_faults : List Field → TextBody → List (Fault NameWhy)
constant_faults fs b = body_faults (context_of fs [] b) b
