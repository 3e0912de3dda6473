-- Functions, and what stands in them.
use Rattle.std.specs.Prelude.{ℕ, negsuc, List, [], ◌∷◌, Option, Some, None, refl}
use Rattle.wc_ops.specs.declared.op.IndexOp.TheVariants.{Br, LocalGet}
use Rattle.wc_ops.specs.declared.op.MemOp.TheVariants.{I32Load}
use Rattle.wc_ops.specs.declared.val_type.ValType.TheVariants.{I32, I64}
use Rattle.wc_body.specs.declared.instr.Instr.TheVariants as binary
use Rattle.wc_body.specs.declared.instr.BlockType.TheVariants as resolved
use Rattle.wc_body.specs.Standard.Nested.{Code, block, loop}
use Rattle.wc_surface.specs.Standard.Identifiers.{Identifier}
use Rattle.wc_surface.specs.Standard.Written.Indices.{number, named}
use Rattle.wc_surface.specs.Standard.Written.Instructions.{indexed, br_table, call_indirect, access, i32_const}
use Rattle.wc_surface.specs.Standard.Written.Instructions.{Head, BlockType, short, use_of}
use Rattle.wc_surface.specs.Standard.Written.Fields.{Function, Field, type_field, func_field}
use Rattle.wc_meaning.specs.Standard.Denoted.{Means}
use Rattle.wc_meaning.proofs.Examples.Parts.{a_at, b_at, param, local, signature, type_use}
use Rattle.wc_meaning.proofs.Examples.Parts.{no_use, func, func_type, func_of, no_module, plain}

-- ---- `(func (param $a i32) (local i64) (local $b i32) local.get $b local.get $a)`: parameters before locals

abbrev parameters : List Field
parameters = func_field 1 plain (Function.code
    (type_use None (param (Some (a_at 4)) I32 ∷ []) [])
    (local None I64 9 ∷ local (Some (b_at 13)) I32 14 ∷ [])
    (Code.op (indexed LocalGet (named (b_at 17))) (Code.op (indexed LocalGet (named (a_at 19))) Code.empty))) ∷ []

meant_parameters : Means parameters (record no_module {
  types = func_type (I32 ∷ []) [] ∷ [];
  funcs = record {
    ty = 0;
    locals = I64 ∷ I32 ∷ [];
    body = Code.op (binary.Index LocalGet 2) (Code.op (binary.Index LocalGet 0) Code.empty);
  } ∷ [];
})
meant_parameters = record { right = refl; same = refl }

-- ---- `(func (type $a) (local $b i32) local.get $b)` and `(type $a (func (param i32) (param $b i64)))` behind it: the
-- function has the parameters of its type, and none of their identifiers

abbrev by_type : List Field
by_type = func_field 1 plain (Function.code (type_use (Some (named (a_at 4))) [] [])
    (local (Some (b_at 8)) I32 9 ∷ []) (Code.op (indexed LocalGet (named (b_at 12))) Code.empty))
    ∷ type_field (Some (a_at 16)) (signature (param None I32 ∷ param (Some (b_at 25)) I64 ∷ []) []) ∷ []

meant_by_type : Means by_type (record no_module {
  types = func_type (I32 ∷ I64 ∷ []) [] ∷ [];
  funcs = record { ty = 0; locals = I32 ∷ []; body = Code.op (binary.Index LocalGet 2) Code.empty } ∷ [];
})
meant_by_type = record { right = refl; same = refl }

-- ---- `(func block $a loop $b br $a br_table $b 1 2 end end)`: labels from the innermost on

abbrev head : ℕ → Option Identifier → BlockType → Head
head token label ty = record { token = token; label = label; ty = ty; else_id = None; end_id = None }

abbrev labels : List Field
labels = func 1 no_use (Code.region block (head 2 (Some (a_at 3)) (short None))
    (Code.region loop (head 4 (Some (b_at 5)) (short None)) (Code.op (indexed Br (named (a_at 7)))
    (Code.op (br_table (named (b_at 9) ∷ number 10 1 ∷ []) (number 11 2)) Code.empty)) Code.empty) Code.empty) ∷ []

meant_labels : Means labels (record no_module {
  types = func_type [] [] ∷ [];
  funcs = func_of 0 (Code.region block resolved.Empty (Code.region loop resolved.Empty
      (Code.op (binary.Index Br 1) (Code.op (binary.BrTable 2 (0 ∷ 1 ∷ [])) Code.empty)) Code.empty) Code.empty) ∷ [];
})
meant_labels = record { right = refl; same = refl }

-- ---- `(func (call_indirect (param i64) (block (param i32))))`: the operand comes first, but its type use is the later
-- one

abbrev folded : List Field
folded = func 1 no_use (Code.region block (head 9 None (use_of (type_use None (param None I32 ∷ []) []))) Code.empty
    (Code.op (call_indirect 3 (type_use None (param None I64 ∷ []) [])) Code.empty)) ∷ []

meant_folded : Means folded (record no_module {
  types = func_type [] [] ∷ func_type (I64 ∷ []) [] ∷ func_type (I32 ∷ []) [] ∷ [];
  funcs = func_of 0 (Code.region block (resolved.Index 2) Code.empty (Code.op (binary.CallIndirect 1) Code.empty)) ∷ [];
})
meant_folded = record { right = refl; same = refl }

-- ---- `(func if (result i32) i32.const -1 else i32.load end)`: a short type adds none; defaults are written out

abbrev defaults : List Field
defaults = func 1 no_use (Code.choice (head 2 None (short (Some I32))) (Code.op (i32_const 0xFFFFFFFF) Code.empty)
    (Code.op (access I32Load (record { offset = None; align = None })) Code.empty) Code.empty) ∷ []

meant_defaults : Means defaults (record no_module {
  types = func_type [] [] ∷ [];
  funcs = func_of 0 (Code.choice (resolved.Value I32) (Code.op (binary.I32Const (negsuc 0)) Code.empty)
      (Code.op (binary.Mem I32Load (record { align = 2; offset = 0 })) Code.empty) Code.empty) ∷ [];
})
meant_defaults = record { right = refl; same = refl }
