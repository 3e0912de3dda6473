-- How the code stores instructions (Core 1.0, 6.5): each names by its place in a row what has no fixed size.
use Rattle.std.specs.Prelude.{ℕ, suc, List, [], ◌∷◌, length, map}
use Rattle.std.specs.Int.{cast_signed, w32, w64}
use Rattle.wc_body.specs.Standard.Nested.{Code, empty, op, region, choice}
use Rattle.wc_surface.specs.declared.instr.TextInstr.{TextInstr}
use Rattle.wc_surface.specs.declared.instr.TextInstr.TheVariants as stored
use Rattle.wc_surface.specs.declared.instr.Operand.{Operand}
use Rattle.wc_surface.specs.declared.instr.Operand.TheVariants as operand
use Rattle.wc_surface.specs.declared.head.Head.{Head as StoredHead}
use Rattle.wc_surface.specs.declared.head.HeadType.{HeadType}
use Rattle.wc_surface.specs.declared.head.HeadType.TheVariants.{Short, Use}
use Rattle.wc_surface.specs.declared.head.TextBody.{TextBody}
use Rattle.wc_surface.specs.Standard.Written.Indices.{Index, number, named}
use Rattle.wc_surface.specs.Standard.Written.Instructions.{Plain, simple, indexed, br_table, call_indirect, access}
use Rattle.wc_surface.specs.Standard.Written.Instructions.{i32_const, i64_const, BlockType, short, use_of, Head}
use Rattle.wc_surface.specs.Standard.Written.Instructions.{Instrs}
use Rattle.wc_parse_code.specs.Stored.Order.{place_of}
use Rattle.wc_parse_code.specs.Stored.Rows.{Rows, index_token, rows_of}

-- the place in its row of what stands at a token
pub record Places : Type 0 where
  pub head_at : ℕ → ℕ
  pub use_at : ℕ → ℕ
  pub id_at : ℕ → ℕ
  pub label_at : ℕ → ℕ

-- the places in these rows
abbrev pub places_in : Rows → Places
places_in rows = record {
  head_at = place_of (λ h. h.token) rows.heads;
  use_at = place_of (λ u. u.token) rows.uses;
  id_at = place_of (λ i. i.token) rows.ids;
  label_at = place_of index_token rows.labels;
}

-- the first of these labels, which the default follows
abbrev pub first_label : List Index → Index → Index
first_label [] default = default
first_label (x ∷ xs) default = x

module _ (places : Places) where
  -- an index: a number, or the place of its identifier
  abbrev pub operand_as : Index → Operand
  operand_as (number token n) = operand.Number n
  operand_as (named i) = operand.Named (places.id_at i.token)

  -- an instruction in which none is nested: a `br_table` by the place of its first label and the number of them
  abbrev pub plain_as : Plain → TextInstr
  plain_as (simple o) = stored.Simple o
  plain_as (indexed o x) = stored.Index o (operand_as x)
  plain_as (br_table labels default) =
      stored.BrTable (places.label_at (index_token (first_label labels default))) (suc (length labels))
  plain_as (call_indirect token u) = stored.CallIndirect (places.use_at token)
  plain_as (access o m) = stored.Access o m.align m.offset
  plain_as (i32_const bits) = stored.I32Const (cast_signed w32 bits)
  plain_as (i64_const bits) = stored.I64Const (cast_signed w64 bits)

  -- the type of a block, a loop or an if, whose word has this number
  abbrev pub type_as : ℕ → BlockType → HeadType
  type_as token (short t) = Short t
  type_as token (use_of u) = Use (places.use_at token)

  -- a head
  abbrev pub head_as : Head → StoredHead
  head_as h = record {
    token = h.token;
    label = h.label;
    ty = type_as h.token h.ty;
    else_id = h.else_id;
    end_id = h.end_id;
  }

  -- instructions, each block, loop and if with the place of its head
  abbrev pub code_as : Instrs → Code TextInstr ℕ
  code_as empty = empty
  code_as (op p next) = op (plain_as p) (code_as next)
  code_as (region r h inside next) = region r (places.head_at h.token) (code_as inside) (code_as next)
  code_as (choice h first second next) =
      choice (places.head_at h.token) (code_as first) (code_as second) (code_as next)

  -- a body with these rows
  abbrev pub body_with : Rows → Instrs → TextBody
  body_with rows c = record {
    code = code_as c;
    heads = map head_as rows.heads;
    uses = rows.uses;
    ids = rows.ids;
    labels = map operand_as rows.labels;
  }

-- the body that these instructions are: places are those in the rows that it has
abbrev pub body_as : Instrs → TextBody
body_as c = body_with (places_in (rows_of c)) (rows_of c) c
