-- Function types (Core 1.0, 6.4.3), and how a list of them grows (6.6.3).
use Rattle.std.specs.Prelude.{ℕ, Bool, true, false, ◌&&◌, List, [], ◌∷◌, ◌++◌, map, Option, is_some, if◌then◌else◌}
use Rattle.std.specs.List.{position_from}
use lib.Pointwise.{pointwise}
use Rattle.wc_ops.specs.declared.val_type.ValType.{ValType}
use Rattle.wc_ops.specs.declared.val_type.ValType.TheVariants.{I32, I64}
use Rattle.wc_ast.specs.declared.func_type.FuncType.{FuncType}
use Rattle.wc_surface.specs.Standard.Written.TypeUses.{Signature}

-- the function type of these parameters and results (6.4.3)
abbrev pub func_type : Signature → FuncType
func_type s = record { params = map (λ p. p.ty) s.params; results = s.results }

-- these are one value type
abbrev pub same : ValType → ValType → Bool
same I32 I32 = true
same I64 I64 = true
same _ _ = false

-- these are one function type: they have the same parameters and the same results, in the same order
abbrev pub same_type : FuncType → FuncType → Bool
same_type f g = pointwise same f.params g.params && pointwise same f.results g.results

-- the smallest index of a function type (6.6.3)
abbrev pub type_index : FuncType → List FuncType → Option ℕ
type_index f types = position_from (λ g. same_type g f) 0 types

-- the list of types, with each of these behind it that isn't in it by then (6.6.3)
abbrev pub with_types : List FuncType → List FuncType → List FuncType
with_types types [] = types
with_types types (f ∷ fs) = with_types (if is_some (type_index f types) then types else types ++ f ∷ []) fs
