-- What is wrong with names, and which fault is the first.
use Rattle.std.proofs.Common.{◌≡◌, ℕ, List, [], ◌∷◌, ◌++◌, length, slice_get, Option, Some, None, refl, sym, ap, ◌∙◌}
use Rattle.wc_ops.specs.declared.op.IndexOp.TheVariants.{Br, Call}
use Rattle.wc_ops.specs.declared.val_type.ValType.TheVariants.{I32, I64}
use Rattle.wc_body.specs.Standard.Nested.{Code, block}
use Rattle.wc_ast.specs.Standard.LocalGroups.{locals_limit}
use Rattle.wc_resolve_code.specs.declared.why.NameWhy.TheVariants as why
use Rattle.wc_surface.specs.Standard.Identifiers.{Identifier}
use Rattle.wc_surface.specs.Standard.Written.Indices.{number, named}
use Rattle.wc_surface.specs.Standard.Written.Instructions.{indexed, call_indirect, Head, short, use_of}
use Rattle.wc_surface.specs.Standard.Written.Fields.{Local, Desc, Function, Memory}
use Rattle.wc_surface.specs.Standard.Written.Fields.{import_field, func_field, memory_field, start_field}
use Rattle.wc_meaning.specs.Standard.Contexts.{fault}
use Rattle.wc_meaning.specs.Standard.Inner.{beyond}
use Rattle.wc_meaning.specs.Standard.Denoted.{FirstFault}
use Rattle.wc_meaning.proofs.Codes.Finding.{at-end}
use Rattle.wc_meaning.proofs.Examples.Parts.{a_at, b_at, param, local, type_use, no_use, plain, func, import_at}
use Rattle.wc_meaning.proofs.Examples.Parts.{named_plain}

-- ---- `(func call $a)` and `(func br $b)`: the fault of the least token

unknown : FirstFault (func 1 no_use (Code.op (indexed Call (named (a_at 3))) Code.empty)
    ∷ func 6 no_use (Code.op (indexed Br (named (b_at 8))) Code.empty) ∷ []) 3 why.UnknownId
unknown = refl

-- ---- `(func call $a)` and `(func (type 0) (param i32))`: type uses are judged before instructions

staged : FirstFault (func 1 no_use (Code.op (indexed Call (named (a_at 3))) Code.empty)
    ∷ func 6 (type_use (Some (number 9 0)) (param None I32 ∷ []) []) Code.empty ∷ []) 9 why.TypeDiffers
staged = refl

-- ---- `(func (type 1))`, `(func $a)` and `(func $a)`: declarations are judged before type uses

declared_first : FirstFault (func 1 (type_use (Some (number 4 1)) [] []) Code.empty
    ∷ func_field 8 (named_plain (a_at 9)) (Function.code no_use [] Code.empty)
    ∷ func_field 12 (named_plain (a_at 13)) (Function.code no_use [] Code.empty) ∷ []) 13 why.DuplicateId
declared_first = refl

-- ---- `(func (type 1))` and `(func)`: the text has one type, that of the second function

no_such_type : FirstFault (func 1 (type_use (Some (number 4 1)) [] []) Code.empty
    ∷ func 8 no_use Code.empty ∷ []) 4 why.NoSuchType
no_such_type = refl

-- ---- `(func (param $a i32) (param i64) (local $a i32))`: parameters and locals are one index space

twice : FirstFault (func_field 1 plain (Function.code
    (type_use None (param (Some (a_at 4)) I32 ∷ param None I64 ∷ []) []) (local (Some (a_at 13)) I32 14 ∷ [])
    Code.empty) ∷ []) 13 why.DuplicateId
twice = refl

-- ---- as many locals as the limit allows, and another one

too_many : (front rest : List Local) (l : Local) → length front ≡ locals_limit
    → beyond (slice_get (front ++ l ∷ rest) locals_limit) ≡ fault l.token why.TooManyLocals
too_many front rest l e =
    ap (λ (n : ℕ). beyond (slice_get (front ++ l ∷ rest) n)) (sym e) ∙ ap beyond (at-end front rest l)

-- ---- `(memory 0)`, `(import "m" "n" (func))`, `(start 0)` and `(start 0)`

late : FirstFault (memory_field plain (Memory.limits (record { min = 0; max = None }))
    ∷ import_field (import_at 5) None (Desc.func no_use)
    ∷ start_field 13 (number 14 0) ∷ start_field 17 (number 18 0) ∷ []) 5 why.LateImport
late = refl

-- ---- `(start 0)` and `(start 0)`

second : FirstFault (start_field 1 (number 2 0) ∷ start_field 5 (number 6 0) ∷ []) 5 why.SecondStart
second = refl

-- ---- `(func block $a end $b)`

abbrev head : Option Identifier → Option Identifier → Head
head label end = record { token = 2; label = label; ty = short None; else_id = None; end_id = end }

differs : FirstFault (func 1 no_use (Code.region block (head (Some (a_at 3)) (Some (b_at 5))) Code.empty Code.empty)
    ∷ []) 5 why.LabelDiffers
differs = refl

-- ---- `(func call_indirect (param $a i32))` and `(func block (param $a i32) end)`: these name no local

named_param : FirstFault (func 1 no_use
    (Code.op (call_indirect 2 (type_use None (param (Some (a_at 5)) I32 ∷ []) [])) Code.empty) ∷ []) 5 why.NamedParam
named_param = refl

abbrev typed_head : Head
typed_head = record {
  token = 2;
  label = None;
  ty = use_of (type_use None (param (Some (a_at 5)) I32 ∷ []) []);
  else_id = None;
  end_id = None;
}

block_param : FirstFault (func 1 no_use (Code.region block typed_head Code.empty Code.empty) ∷ []) 5 why.BlockParam
block_param = refl
