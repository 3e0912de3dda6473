-- Type uses (Core 1.0, 6.6.3), against the types of the whole text.
use Rattle.std.specs.Prelude.{ℕ, ◌||◌, [], ◌++◌, Option, Some, None, slice_get, if◌then◌else◌}
use Rattle.std.specs.List.{flat_map}
use Rattle.std.specs.Option.{unwrap_or}
use Rattle.wc_ast.specs.declared.func_type.FuncType.{FuncType}
use Rattle.wc_resolve_code.specs.declared.why.NameWhy.TheVariants.{UnknownId, NoSuchType, TypeDiffers, NamedParam}
use Rattle.wc_resolve_code.specs.declared.why.NameWhy.TheVariants.{BlockParam}
use Rattle.wc_surface.specs.Standard.Identifiers.{Identifier}
use Rattle.wc_surface.specs.Standard.Written.Indices.{Index}
use Rattle.wc_surface.specs.Standard.Written.TypeUses.{TypeUse}
use Rattle.wc_meaning.specs.Standard.Contexts.{Context, Faults, fault, found, index_in, token_of}
use Rattle.wc_meaning.specs.Standard.Types.{func_type, same_type, type_index}
use Rattle.wc_meaning.specs.Standard.Gathered.{User, of_func, of_call, of_block, Use}

-- the function type of nothing
abbrev pub no_type : FuncType
no_type = record { params = []; results = [] }

-- the index of a type, or where none is written the smallest one of the type that is (6.6.3)
abbrev pub index_or_type : Context → Option Index → FuncType → ℕ
index_or_type c None f = unwrap_or (type_index f c.typedefs) 0
index_or_type c (Some x) f = index_in c.types x

-- the index of the type that a use is of (6.6.3)
abbrev pub use_index : Context → TypeUse → ℕ
use_index c u = index_or_type c u.index (func_type u.signature)

-- what is wrong with an index at this token that is of this type, where it is of one: no type has it, or something is
-- written behind it and isn't that type (6.6.3)
abbrev pub type_faults : ℕ → Option FuncType → FuncType → Faults
type_faults token None written = fault token NoSuchType
type_faults token (Some f) written =
    if same_type written no_type || same_type f written then [] else fault token TypeDiffers

-- the same of an index at this token that stands for this number, where it does for one (6.6.1)
abbrev pub found_faults : Context → ℕ → Option ℕ → FuncType → Faults
found_faults c token None written = fault token UnknownId
found_faults c token (Some n) written = type_faults token (slice_get c.typedefs n) written

-- what is wrong with the index of a use, where one is written
abbrev pub written_faults : Context → Option Index → FuncType → Faults
written_faults c None written = []
written_faults c (Some x) written = found_faults c (token_of x) (found c.types x) written

-- an identifier of a parameter may not stand in a `call_indirect` (6.5.2) or in a block type (Core 2.0, 6.5.2)
abbrev pub refused : User → Option Identifier → Faults
refused of_func i = []
refused of_call None = []
refused of_call (Some i) = fault i.token NamedParam
refused of_block None = []
refused of_block (Some i) = fault i.token BlockParam

-- what is wrong with a type use
abbrev pub use_faults : Context → Use → Faults
use_faults c u = written_faults c u.ty.index (func_type u.ty.signature)
    ++ flat_map (λ p. refused u.user p.id) u.ty.signature.params
