-- Instructions as they are stored.
use Rattle.std.proofs.Common.{◌≡◌, ℕ, [], ◌∷◌, Some, None, refl, codes}
use Rattle.wc_ops.specs.declared.op.SimpleOp.TheVariants.{Nop}
use Rattle.wc_ops.specs.declared.op.IndexOp.TheVariants.{Br, Call}
use Rattle.wc_ops.specs.declared.val_type.ValType.TheVariants.{I32, I64}
use Rattle.wc_body.specs.Standard.Nested.{block, Code}
use Rattle.wc_surface.specs.declared.instr.TextInstr.TheVariants as stored
use Rattle.wc_surface.specs.declared.instr.Operand.TheVariants.{Number, Named}
use Rattle.wc_surface.specs.declared.head.HeadType.TheVariants.{Short, Use}
use Rattle.wc_surface.specs.declared.id.Index.TheVariants as index
use Rattle.wc_surface.specs.declared.type_use.User.TheVariants as user
use Rattle.wc_surface.specs.Standard.Identifiers.{Identifier, identifier}
use Rattle.wc_surface.specs.Standard.Keys.{func_type}
use Rattle.wc_surface.specs.Standard.Written.Indices.{number, named}
use Rattle.wc_surface.specs.Standard.Written.TypeUses.{TypeUse}
use Rattle.wc_surface.specs.Standard.Written.Instructions.{Head, simple, indexed, br_table, call_indirect, short}
use Rattle.wc_surface.specs.Standard.Written.Instructions.{use_of}
use Rattle.wc_parse_code.specs.Standard.Productions.TypeUses.{param, signature, type_use}
use Rattle.wc_parse_code.specs.Stored.TypeUses.{use_as}
use Rattle.wc_parse_code.specs.Stored.Bodies.{body_as}

-- `$a`, and `$b`, at the token of this number
abbrev a_at : ℕ → Identifier
a_at token = identifier token (codes "$a")

abbrev b_at : ℕ → Identifier
b_at token = identifier token (codes "$b")

-- ---- `(if (call $a) (then (br $b)))`, from token 2 on: the condition stands in front; identifiers keep their order

-- the head of the if
abbrev if_head : Head
if_head = record { token = 3; label = None; ty = short None; else_id = None; end_id = None }

stored_if : body_as (Code.op (indexed Call (named (a_at 6)))
    (Code.choice if_head (Code.op (indexed Br (named (b_at 11))) Code.empty) Code.empty Code.empty))
    ≡ record {
      code = Code.op (stored.Index Call (Named 0))
          (Code.choice 0 (Code.op (stored.Index Br (Named 1)) Code.empty) Code.empty Code.empty);
      heads = record { token = 3; label = None; ty = Short None; else_id = None; end_id = None } ∷ [];
      uses = [];
      ids = a_at 6 ∷ b_at 11 ∷ [];
      labels = [];
    }
stored_if = refl

-- ---- `(if (block (type 0) nop) (then))`, from token 2 on: the head of the if stands before that of its condition

-- the type of the block
abbrev type_0 : TypeUse
type_0 = type_use (Some (number 8 0)) (signature [] [])

-- the head of the block
abbrev block_head : Head
block_head = record { token = 5; label = None; ty = use_of type_0; else_id = None; end_id = None }

stored_condition : body_as (Code.region block block_head (Code.op (simple Nop) Code.empty)
    (Code.choice if_head Code.empty Code.empty Code.empty))
    ≡ record {
      code = Code.region block 1 (Code.op (stored.Simple Nop) Code.empty)
          (Code.choice 0 Code.empty Code.empty Code.empty);
      heads = record { token = 3; label = None; ty = Short None; else_id = None; end_id = None }
          ∷ record { token = 5; label = None; ty = Use 0; else_id = None; end_id = None } ∷ [];
      uses = record {
        user = user.Block;
        token = 5;
        index = Some (index.Number 8 0);
        signature = func_type [] [];
        names = [];
      } ∷ [];
      ids = [];
      labels = [];
    }
stored_condition = refl

-- ---- `(br_table $a 1 (br_table 2 $b))`, from token 2 on: the operand stands in front, but its labels behind

stored_labels : body_as (Code.op (br_table (number 7 2 ∷ []) (named (b_at 8)))
    (Code.op (br_table (named (a_at 3) ∷ []) (number 4 1)) Code.empty))
    ≡ record {
      code = Code.op (stored.BrTable 2 2) (Code.op (stored.BrTable 0 2) Code.empty);
      heads = [];
      uses = [];
      ids = a_at 3 ∷ b_at 8 ∷ [];
      labels = Named 0 ∷ Number 1 ∷ Number 2 ∷ Named 1 ∷ [];
    }
stored_labels = refl

-- ---- `(call_indirect (param i32) (call_indirect (type $a)))`, from token 2 on: so do type uses

-- `(param i32)`
abbrev outer_use : TypeUse
outer_use = type_use None (signature (param None I32 ∷ []) [])

-- `(type $a)`, whose identifier is none of an instruction
abbrev inner_use : TypeUse
inner_use = type_use (Some (named (a_at 11))) (signature [] [])

stored_calls : body_as (Code.op (call_indirect 8 inner_use) (Code.op (call_indirect 2 outer_use) Code.empty))
    ≡ record {
      code = Code.op (stored.CallIndirect 1) (Code.op (stored.CallIndirect 0) Code.empty);
      heads = [];
      uses = use_as user.CallIndirect 2 outer_use ∷ use_as user.CallIndirect 8 inner_use ∷ [];
      ids = [];
      labels = [];
    }
stored_calls = refl

-- ---- `(func (type $a) (param i32) (param $b i64))`: identifiers of parameters with their places

stored_params : use_as user.Func 1 (type_use (Some (named (a_at 4)))
    (signature (param None I32 ∷ param (Some (b_at 11)) I64 ∷ []) []))
    ≡ record {
      user = user.Func;
      token = 1;
      index = Some (index.Named (a_at 4));
      signature = func_type (I32 ∷ I64 ∷ []) [];
      names = record { place = 1; id = b_at 11 } ∷ [];
    }
stored_params = refl
