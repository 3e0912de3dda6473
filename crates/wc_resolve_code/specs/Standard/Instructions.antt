-- Instructions in which none is nested (Core 1.0, 6.5.2 to 6.5.6), with numbers in place of identifiers and of type
-- uses, and with their defaults written out.
use Rattle.std.specs.Prelude.{ℕ, ◌-◌, List, [], map, length, take, drop, slice_index_or}
use Rattle.std.specs.Option.{unwrap_or}
use Rattle.std.specs.List.{flat_map}
use Rattle.wc_ops.specs.Standard.Opcodes.{memory}
use Rattle.wc_body.specs.declared.instr.Instr.{Instr}
use Rattle.wc_body.specs.declared.instr.Instr.TheVariants as binary
use Rattle.wc_surface.specs.declared.instr.Operand.{Operand}
use Rattle.wc_surface.specs.declared.instr.TextInstr.{TextInstr}
use Rattle.wc_surface.specs.declared.instr.TextInstr.TheVariants as written
use Rattle.wc_surface.specs.declared.head.TextBody.{TextBody}
use Rattle.wc_spaces.specs.declared.noted.Fault.{Fault}
use Rattle.wc_resolve_code.specs.declared.why.NameWhy.{NameWhy}
use Rattle.wc_resolve_code.specs.Standard.Contexts.{Declared, Context}
use Rattle.wc_resolve_code.specs.Standard.Operands.{space_of, index_in, index_faults}

-- the index of the type of a type use of the body (6.6.3)
abbrev pub type_at : Context → ℕ → ℕ
type_at c place = slice_index_or c.uses place 0

-- a branch by these labels, its default last (6.5.2)
abbrev pub table : List ℕ → Instr
table labels = binary.BrTable (slice_index_or labels (length labels - 1) 0) (take (length labels - 1) labels)

-- so many of the labels of the body
abbrev pub labels_at : TextBody → ℕ → ℕ → List Operand
labels_at b first count = take count (drop first b.labels)

-- the instruction inside these labels; the default of an alignment is the natural one, that of an offset 0 (6.5.5)
abbrev pub resolved_instr : Context → TextBody → Declared → TextInstr → Instr
resolved_instr c b labels (written.Simple op) = binary.Simple op
resolved_instr c b labels (written.Index op index) = binary.Index op (index_in (space_of c labels op) b.ids index)
resolved_instr c b labels (written.Access op align offset) =
    binary.Mem op (record { align = unwrap_or align (memory op).alignment; offset = unwrap_or offset 0 })
resolved_instr c b labels (written.BrTable first count) =
    table (map (index_in labels b.ids) (labels_at b first count))
resolved_instr c b labels (written.CallIndirect place) = binary.CallIndirect (type_at c place)
resolved_instr c b labels (written.I32Const n) = binary.I32Const n
resolved_instr c b labels (written.I64Const n) = binary.I64Const n

-- what is wrong with it
abbrev pub instr_faults : Context → TextBody → Declared → TextInstr → List (Fault NameWhy)
instr_faults c b labels (written.Simple op) = []
instr_faults c b labels (written.Index op index) = index_faults (space_of c labels op) b.ids index
instr_faults c b labels (written.Access op align offset) = []
instr_faults c b labels (written.BrTable first count) =
    flat_map (index_faults labels b.ids) (labels_at b first count)
instr_faults c b labels (written.CallIndirect place) = []
instr_faults c b labels (written.I32Const n) = []
instr_faults c b labels (written.I64Const n) = []
