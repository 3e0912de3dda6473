-- Instructions (Core 1.0, 6.5; Core 2.0, 6.5.2, for block types) with numbers in place of identifiers and of type uses,
-- and with their defaults written out; and what is wrong with their names.
use Rattle.std.specs.Prelude.{[], ◌∷◌, ◌++◌, map, Option, Some, None, if◌then◌else◌}
use Rattle.std.specs.Int.{cast_signed, w32, w64}
use Rattle.std.specs.Option.{unwrap_or}
use Rattle.wc_ops.specs.Standard.Opcodes.{memory}
use Rattle.wc_ops.specs.declared.op.IndexOp.{IndexOp}
use Rattle.wc_ops.specs.declared.op.IndexOp.TheVariants.{Br, BrIf, Call, LocalGet, LocalSet, LocalTee, GlobalGet}
use Rattle.wc_ops.specs.declared.op.IndexOp.TheVariants.{GlobalSet}
use Rattle.wc_body.specs.declared.instr.Instr.{Instr}
use Rattle.wc_body.specs.declared.instr.Instr.TheVariants as binary
use Rattle.wc_body.specs.declared.instr.BlockType.{BlockType as ResolvedType}
use Rattle.wc_body.specs.declared.instr.BlockType.TheVariants.{Empty, Value, Index}
use Rattle.wc_body.specs.Standard.Nested.{Code, empty, op, region, choice}
use Rattle.wc_spaces.specs.Standard.Spaces.{is_named}
use Rattle.wc_resolve_code.specs.declared.why.NameWhy.TheVariants.{LabelDiffers}
use Rattle.wc_surface.specs.Standard.Identifiers.{Identifier}
use Rattle.wc_surface.specs.Standard.Written.Instructions.{Plain, simple, indexed, br_table, call_indirect, access}
use Rattle.wc_surface.specs.Standard.Written.Instructions.{i32_const, i64_const, BlockType, short, use_of, Head, Instrs}
use Rattle.wc_meaning.specs.Standard.Contexts.{Space, Context, Faults, fault, bytes_in, index_in, index_faults}
use Rattle.wc_meaning.specs.Standard.Contexts.{indices_faults}
use Rattle.wc_meaning.specs.Standard.Uses.{use_index}

-- what the index of an instruction is of (6.5.2, 6.5.4)
abbrev pub space_of : Context → IndexOp → Space
space_of c Br = c.labels
space_of c BrIf = c.labels
space_of c Call = c.funcs
space_of c LocalGet = c.locals
space_of c LocalSet = c.locals
space_of c LocalTee = c.locals
space_of c GlobalGet = c.globals
space_of c GlobalSet = c.globals

-- an instruction in which none is nested; where no offset is written it is 0, and where no alignment is, the natural
-- one (6.5.2 to 6.5.6)
abbrev pub resolved_plain : Context → Plain → Instr
resolved_plain c (simple o) = binary.Simple o
resolved_plain c (indexed o x) = binary.Index o (index_in (space_of c o) x)
resolved_plain c (br_table labels default) = binary.BrTable (index_in c.labels default) (map (index_in c.labels) labels)
resolved_plain c (call_indirect token u) = binary.CallIndirect (use_index c u)
resolved_plain c (access o m) =
    binary.Mem o (record { align = unwrap_or m.align (memory o).alignment; offset = unwrap_or m.offset 0 })
resolved_plain c (i32_const bits) = binary.I32Const (cast_signed w32 bits)
resolved_plain c (i64_const bits) = binary.I64Const (cast_signed w64 bits)

-- the type of a block, a loop or an if (Core 2.0, 6.5.2)
abbrev pub resolved_type : Context → BlockType → ResolvedType
resolved_type c (short None) = Empty
resolved_type c (short (Some t)) = Value t
resolved_type c (use_of u) = Index (use_index c u)

-- the context inside a block, a loop or an if (6.5.1)
abbrev pub inside_of : Context → Head → Context
inside_of c h = record c { labels = h.label ∷ c.labels }

-- instructions, each with those nested in it (6.5.8)
abbrev pub resolved : Context → Instrs → Code Instr ResolvedType
resolved c empty = empty
resolved c (op p next) = op (resolved_plain c p) (resolved c next)
resolved c (region r h inside next) =
    region r (resolved_type c h.ty) (resolved (inside_of c h) inside) (resolved c next)
resolved c (choice h first second next) =
    choice (resolved_type c h.ty) (resolved (inside_of c h) first) (resolved (inside_of c h) second) (resolved c next)

-- what is wrong with what an instruction names; type uses are judged on their own
abbrev pub plain_faults : Context → Plain → Faults
plain_faults c (indexed o x) = index_faults (space_of c o) x
plain_faults c (br_table labels default) = indices_faults c.labels (labels ++ default ∷ [])
plain_faults c _ = []

-- an identifier behind `else` or `end` that isn't the label (6.5.2)
abbrev pub differing : Option Identifier → Option Identifier → Faults
differing label None = []
differing label (Some i) = if is_named i.text (bytes_in label) then [] else fault i.token LabelDiffers

-- what is wrong with the head of a block, a loop or an if
abbrev pub head_faults : Head → Faults
head_faults h = differing h.label h.else_id ++ differing h.label h.end_id

-- what is wrong with the names in instructions
abbrev pub instrs_faults : Context → Instrs → Faults
instrs_faults c empty = []
instrs_faults c (op p next) = plain_faults c p ++ instrs_faults c next
instrs_faults c (region r h inside next) =
    head_faults h ++ (instrs_faults (inside_of c h) inside ++ instrs_faults c next)
instrs_faults c (choice h first second next) =
    head_faults h
    ++ (instrs_faults (inside_of c h) first ++ (instrs_faults (inside_of c h) second ++ instrs_faults c next))
