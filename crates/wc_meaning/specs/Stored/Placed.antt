-- Where the code finds what instructions name: each in its row, at the place that its token has there.
use Rattle.std.specs.Prelude.{◌≡◌, ℕ, suc, List, [], ◌∷◌, ◌++◌, length, take, drop, Some, slice_get}
use Rattle.std.specs.List.{AllByRecursion}
use Rattle.wc_body.specs.Standard.Throughout.{Throughout}
use Rattle.wc_surface.specs.declared.type_use.User.TheVariants as user
use Rattle.wc_surface.specs.Standard.Written.Indices.{Index, number, named}
use Rattle.wc_surface.specs.Standard.Written.Instructions.{Plain, indexed, br_table, call_indirect, BlockType, short}
use Rattle.wc_surface.specs.Standard.Written.Instructions.{use_of, Head, Instrs}
use Rattle.wc_surface.specs.Standard.Written.Fields.{Function, Global, Field, func_field, global_field, elem_field}
use Rattle.wc_surface.specs.Standard.Written.Fields.{data_field}
use Rattle.wc_parse_code.specs.Stored.TypeUses.{use_as}
use Rattle.wc_parse_code.specs.Stored.Rows.{Rows, index_token, rows_of}
use Rattle.wc_parse_code.specs.Stored.Bodies.{places_in, first_label}

module _ (rows : Rows) where
  -- an index that is an identifier
  abbrev pub IndexPlaced : Index → Type 0
  IndexPlaced (number token n) = Unit {0}
  IndexPlaced (named i) = slice_get rows.ids ((places_in rows).id_at i.token) ≡ Some i

  -- the labels of a `br_table`, its default last, one behind the other
  abbrev pub LabelsPlaced : List Index → Index → Type 0
  LabelsPlaced labels default =
      take (suc (length labels))
      (drop ((places_in rows).label_at (index_token (first_label labels default))) rows.labels)
      ≡ labels ++ default ∷ []

  -- what an instruction names
  abbrev pub PlainPlaced : Plain → Type 0
  PlainPlaced (indexed o x) = IndexPlaced x
  PlainPlaced (br_table labels default) =
      LabelsPlaced labels default × AllByRecursion IndexPlaced (labels ++ default ∷ [])
  PlainPlaced (call_indirect token u) =
      slice_get rows.uses ((places_in rows).use_at token) ≡ Some (use_as user.CallIndirect token u)
  PlainPlaced _ = Unit {0}

  -- the type use of a block, a loop or an if
  abbrev pub TypePlaced : ℕ → BlockType → Type 0
  TypePlaced token (short t) = Unit {0}
  TypePlaced token (use_of u) = slice_get rows.uses ((places_in rows).use_at token) ≡ Some (use_as user.Block token u)

  -- a head, and its type use
  abbrev pub HeadPlaced : Head → Type 0
  HeadPlaced h = (slice_get rows.heads ((places_in rows).head_at h.token) ≡ Some h) × TypePlaced h.token h.ty

-- all that instructions name is found in the rows that they are stored with
abbrev pub IsPlaced : Instrs → Type 0
IsPlaced c = Throughout (PlainPlaced (rows_of c)) (HeadPlaced (rows_of c)) c

-- the same of the instructions of a field
abbrev pub FieldPlaced : Field → Type 0
FieldPlaced (func_field token d (Function.code u ls c)) = IsPlaced c
FieldPlaced (global_field d (Global.init g c)) = IsPlaced c
FieldPlaced (elem_field t c xs) = IsPlaced c
FieldPlaced (data_field m c bytes) = IsPlaced c
FieldPlaced _ = Unit {0}

-- the same of all fields of a text
abbrev pub ArePlaced : List Field → Type 0
ArePlaced fs = AllByRecursion FieldPlaced fs
