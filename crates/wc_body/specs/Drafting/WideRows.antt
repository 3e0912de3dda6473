-- Instructions of one integer, an index or a constant (Core 1.0, 5.4): what they are like by their opcode, and what is
-- noted of one.
use Rattle.std.specs.Prelude.{◌≡◌, ℕ, ◌+◌, ◌-◌, ◌^◌, ◌<◌, ◌≤◌, ◌≤ℤ◌, max, min, bit_and, ℤ, List}
use Rattle.wc_leb128.specs.Reading.Respelled.{IsRespelled}
use Rattle.wc_ops.specs.declared.op.Op.{Op}
use Rattle.wc_ops.specs.declared.op.Op.TheVariants as ops
use Rattle.wc_ops.specs.declared.op.OpByte.{OpByte}
use Rattle.wc_ops.specs.declared.op.OpByte.TheVariants.{Known}
use Rattle.wc_ops.specs.declared.op.IndexOp.{IndexOp}
use Rattle.wc_ops.specs.declared.op.IndexOp.TheVariants.{Call, LocalGet, LocalSet, LocalTee, GlobalGet}
use Rattle.wc_ops.specs.Reading.OpcodeMeaning.{meaning}
use Rattle.wc_body.specs.declared.runs.wide.Wide.{Wide}
use Rattle.wc_body.specs.declared.runs.wide.TheConstants.{OTHER, LOCAL, GLOBAL, CALL, CONST_32, CONST_64}
use Rattle.wc_body.specs.declared.needs.Needs.{Needs}

-- an index that one maximum is noted of
abbrev pub index_wide : IndexOp → Wide
index_wide LocalGet = LOCAL
index_wide LocalSet = LOCAL
index_wide LocalTee = LOCAL
index_wide GlobalGet = GLOBAL
index_wide Call = CALL
index_wide _ = OTHER

abbrev pub op_wide : Op → Wide
op_wide (ops.Index op) = index_wide op
op_wide ops.I32Const = CONST_32
op_wide ops.I64Const = CONST_64
op_wide _ = OTHER

-- the same by what the opcode means
abbrev pub meant_wide : OpByte → Wide
meant_wide (Known op) = op_wide op
meant_wide _ = OTHER

-- what the instructions of this opcode are like
unfoldable pub wide_at : ℕ → Wide
wide_at b = meant_wide (meaning b)

-- what one needs more, of this index
abbrev pub with_wide : Needs → Wide → ℕ → Needs
with_wide s r n = record s {
  locals = max s.locals (bit_and (min (n + 1) (2 ^ 32 - 1)) r.locals);
  globals = max s.globals (bit_and (min (n + 1) (2 ^ 32 - 1)) r.globals);
  funcs = max s.funcs (bit_and (min (n + 1) (2 ^ 32 - 1)) r.funcs);
}

-- it is no index that is noted
abbrev pub AsksForNone : Wide → Type 0
AsksForNone r = (r.locals ≡ 0) × (r.globals ≡ 0) × (r.funcs ≡ 0)

-- the bytes begin with an integer that such a row has, of so many bytes; its shortest spelling has so many of these
pub record IsOfRow (r : Wide) (bytes : List ℕ) (value : ℤ) (count length : ℕ) (spelled : List ℕ) : Type 0 where
  pub some : 0 < r.longest
  pub read : IsRespelled r.signed bytes value count length spelled
  pub few : count ≤ r.longest
  pub least : r.least ≤ℤ value
  pub most : value ≤ℤ r.most
