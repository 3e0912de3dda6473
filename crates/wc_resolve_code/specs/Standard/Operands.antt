-- What instructions name (Core 1.0, 6.6.1): a number stands for itself, an identifier for the place of what has it.
use Rattle.std.specs.Prelude.{ℕ, List, [], ◌∷◌, Option, Some, None, is_some, slice_get, if◌then◌else◌}
use Rattle.std.specs.Option.{unwrap_or}
use Rattle.wc_ops.specs.declared.op.IndexOp.{IndexOp}
use Rattle.wc_ops.specs.declared.op.IndexOp.TheVariants.{Br, BrIf, Call, LocalGet, LocalSet, LocalTee, GlobalGet}
use Rattle.wc_ops.specs.declared.op.IndexOp.TheVariants.{GlobalSet}
use Rattle.wc_surface.specs.Standard.Identifiers.{Identifier}
use Rattle.wc_surface.specs.declared.instr.Operand.{Operand}
use Rattle.wc_surface.specs.declared.instr.Operand.TheVariants.{Number, Named}
use Rattle.wc_spaces.specs.Standard.Spaces.{place_of}
use Rattle.wc_spaces.specs.declared.noted.Fault.{Fault}
use Rattle.wc_resolve_code.specs.declared.why.NameWhy.{NameWhy}
use Rattle.wc_resolve_code.specs.declared.why.NameWhy.TheVariants.{UnknownId}
use Rattle.wc_resolve_code.specs.Standard.Contexts.{Declared, Context}

-- what the index of an instruction is of, inside these labels (6.5.2, 6.5.4)
abbrev pub space_of : Context → Declared → IndexOp → Declared
space_of c labels Br = labels
space_of c labels BrIf = labels
space_of c labels Call = c.funcs
space_of c labels LocalGet = c.locals
space_of c labels LocalSet = c.locals
space_of c labels LocalTee = c.locals
space_of c labels GlobalGet = c.globals
space_of c labels GlobalSet = c.globals

-- the place of an identifier; 0 where nothing has it, which is a fault
abbrev pub place_or_zero : Declared → Option Identifier → ℕ
place_or_zero ds None = 0
place_or_zero ds (Some id) = unwrap_or (place_of id.text ds) 0

-- the index, where the body has these identifiers
abbrev pub index_in : Declared → List Identifier → Operand → ℕ
index_in ds ids (Number n) = n
index_in ds ids (Named place) = place_or_zero ds (slice_get ids place)

-- one fault
abbrev pub fault : ℕ → NameWhy → List (Fault NameWhy)
fault token why = record { token = token; why = why } ∷ []

-- the fault of an identifier that nothing has
abbrev pub unknown : Declared → Option Identifier → List (Fault NameWhy)
unknown ds None = []
unknown ds (Some id) = if is_some (place_of id.text ds) then [] else fault id.token UnknownId

-- what is wrong with what an instruction names
abbrev pub index_faults : Declared → List Identifier → Operand → List (Fault NameWhy)
index_faults ds ids (Number n) = []
index_faults ds ids (Named place) = unknown ds (slice_get ids place)
