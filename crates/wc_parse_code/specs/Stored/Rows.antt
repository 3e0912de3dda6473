-- What instructions name by places.
use Rattle.std.specs.Prelude.{ℕ, List, [], ◌∷◌, ◌++◌, flat_map}
use Rattle.wc_body.specs.Standard.Nested.{empty, op, region, choice}
use Rattle.wc_surface.specs.declared.type_use.User.TheVariants as user
use Rattle.wc_surface.specs.declared.type_use.TypeUse.{TypeUse as StoredUse}
use Rattle.wc_surface.specs.Standard.Identifiers.{Identifier}
use Rattle.wc_surface.specs.Standard.Written.Indices.{Index, number, named}
use Rattle.wc_surface.specs.Standard.Written.Instructions.{Plain, indexed, br_table, call_indirect}
use Rattle.wc_surface.specs.Standard.Written.Instructions.{BlockType, short, use_of, Head, Instrs}
use Rattle.wc_parse_code.specs.Stored.Order.{in_order}
use Rattle.wc_parse_code.specs.Stored.TypeUses.{use_as}

-- heads, type uses, the identifiers of indices, and the labels of `br_table`s
pub record Rows : Type 0 where
  pub heads : List Head
  pub uses : List StoredUse
  pub ids : List Identifier
  pub labels : List Index

-- the identifier that an index is, if it is one
abbrev pub id_in : Index → List Identifier
id_in (number token n) = []
id_in (named i) = i ∷ []

-- the labels of a `br_table`, its default last
abbrev pub labels_in : Plain → List Index
labels_in (br_table labels default) = labels ++ default ∷ []
labels_in _ = []

-- the identifiers of its indices
abbrev pub ids_in : Plain → List Identifier
ids_in (indexed o x) = id_in x
ids_in p = flat_map id_in (labels_in p)

-- the type use of a `call_indirect`
abbrev pub uses_in : Plain → List StoredUse
uses_in (call_indirect token u) = use_as user.CallIndirect token u ∷ []
uses_in _ = []

-- the type use of a block, a loop or an if, whose word has this number; a short type is none
abbrev pub type_uses_in : ℕ → BlockType → List StoredUse
type_uses_in token (short t) = []
type_uses_in token (use_of u) = use_as user.Block token u ∷ []

-- what each instruction and each head has, one after the other
abbrev pub gathered : {X : Type 0} → (Plain → List X) → (Head → List X) → Instrs → List X
gathered f g empty = []
gathered f g (op p next) = f p ++ gathered f g next
gathered f g (region r h inside next) = g h ++ (gathered f g inside ++ gathered f g next)
gathered f g (choice h first second next) =
    g h ++ (gathered f g first ++ (gathered f g second ++ gathered f g next))

-- the number of the token that is the index
abbrev pub index_token : Index → ℕ
index_token (number token n) = token
index_token (named i) = i.token

-- all that instructions name by places, each row in the order of the text
abbrev pub rows_of : Instrs → Rows
rows_of c = record {
  heads = in_order (λ h. h.token) (gathered (λ p. []) (λ h. h ∷ []) c);
  uses = in_order (λ u. u.token) (gathered uses_in (λ h. type_uses_in h.token h.ty) c);
  ids = in_order (λ i. i.token) (gathered ids_in (λ h. []) c);
  labels = in_order index_token (gathered labels_in (λ h. []) c);
}
