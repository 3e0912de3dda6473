-- The type uses of a text in its order, and its list of types (Core 1.0, 6.6.2, 6.6.3 and 6.6.13): those that type
-- fields define, and behind them the type of each use that is written without an index, unless it is in the list by
-- then.
use Rattle.std.specs.Prelude.{ℕ, nat_lt, List, [], ◌∷◌, ◌++◌, Option, Some, None, if◌then◌else◌}
use Rattle.std.specs.List.{flat_map}
use Rattle.wc_ast.specs.declared.func_type.FuncType.{FuncType}
use Rattle.wc_body.specs.Standard.Nested.{empty, op, region, choice}
use Rattle.wc_surface.specs.Standard.Written.Indices.{Index}
use Rattle.wc_surface.specs.Standard.Written.TypeUses.{Signature, TypeUse}
use Rattle.wc_surface.specs.Standard.Written.Instructions.{Plain, call_indirect, BlockType, short, use_of, Instrs}
use Rattle.wc_surface.specs.Standard.Written.Fields.{Desc, Function, Global, Field, type_field, import_field}
use Rattle.wc_surface.specs.Standard.Written.Fields.{func_field, global_field, elem_field, data_field}
use Rattle.wc_meaning.specs.Standard.Types.{func_type, with_types}

-- what a type use is of: a function or an import of one, a `call_indirect`, or a block, a loop or an if
pub data User : Type 0 where
  of_func : User
  of_call : User
  of_block : User

-- a type use where it stands, with the number of the word that it is of
pub record Use : Type 0 where
  pub user : User
  pub token : ℕ
  pub ty : TypeUse

-- the same, of its parts
abbrev pub use_at : User → ℕ → TypeUse → Use
use_at user token u = record { user = user; token = token; ty = u }

-- the type use of a `call_indirect` (6.5.2)
abbrev pub plain_uses : Plain → List Use
plain_uses (call_indirect token u) = use_at of_call token u ∷ []
plain_uses _ = []

-- the type use of a block, a loop or an if, whose word has this number (Core 2.0, 6.5.2)
abbrev pub block_uses : ℕ → BlockType → List Use
block_uses token (short t) = []
block_uses token (use_of u) = use_at of_block token u ∷ []

-- the type uses in instructions
abbrev pub uses_in : Instrs → List Use
uses_in empty = []
uses_in (op p next) = plain_uses p ++ uses_in next
uses_in (region r h inside next) = block_uses h.token h.ty ++ (uses_in inside ++ uses_in next)
uses_in (choice h first second next) = block_uses h.token h.ty ++ (uses_in first ++ (uses_in second ++ uses_in next))

-- one more among these, in front of those that come later in the text
abbrev pub put : Use → List Use → List Use
put u [] = u ∷ []
put u (v ∷ vs) = if nat_lt u.token v.token then u ∷ v ∷ vs else v ∷ put u vs

-- these in the order of the text, which isn't that of folded instructions unfolded (6.5.7)
abbrev pub in_order : List Use → List Use
in_order [] = []
in_order (u ∷ us) = put u (in_order us)

-- the type use of a function, or of an import of one (6.6.4 and 6.6.5)
abbrev pub own_uses : Field → List Use
own_uses (import_field m i (Desc.func u)) = use_at of_func m.token u ∷ []
own_uses (func_field token d (Function.imported m u)) = use_at of_func token u ∷ []
own_uses (func_field token d (Function.code u ls c)) = use_at of_func token u ∷ []
own_uses _ = []

-- the type uses in a field's instructions
abbrev pub inner_uses : Field → List Use
inner_uses (func_field token d (Function.code u ls c)) = in_order (uses_in c)
inner_uses (global_field d (Global.init g c)) = in_order (uses_in c)
inner_uses (elem_field t c xs) = in_order (uses_in c)
inner_uses (data_field m c bytes) = in_order (uses_in c)
inner_uses _ = []

-- the type uses of a text, in its order
abbrev pub all_uses : List Field → List Use
all_uses fs = flat_map (λ f. own_uses f ++ inner_uses f) fs

-- the type that a field defines (6.6.2)
abbrev pub defined_type : Field → List FuncType
defined_type (type_field i s) = func_type s ∷ []
defined_type _ = []

-- the type that is written where no index is (6.6.3)
abbrev pub implied : Option Index → Signature → List FuncType
implied None s = func_type s ∷ []
implied (Some x) s = []

-- the types of a text (6.6.13)
abbrev pub types_of : List Field → List FuncType
types_of fs = with_types (flat_map defined_type fs) (flat_map (λ u. implied u.ty.index u.ty.signature) (all_uses fs))
