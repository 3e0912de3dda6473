-- Fields.
use Rattle.std.proofs.Common.{ℕ, List, [], ◌∷◌, Some, None, true, false, refl, codes, lit<}
use Rattle.wc_tokens.specs.Standard.Digits.{digit_of, Digits}
use Rattle.wc_tokens.specs.Standard.Numbers.{Natural, Literal}
use Rattle.wc_ops.specs.declared.op.Op.TheVariants as op
use Rattle.wc_ops.specs.declared.op.SimpleOp.TheVariants.{Nop}
use Rattle.wc_ops.specs.declared.val_type.ValType.TheVariants.{I32, I64}
use Rattle.wc_ast.specs.declared.export.ExportKind.TheVariants as export
use Rattle.wc_body.specs.Standard.Nested.{Code}
use Rattle.wc_syntax.specs.declared.kind.Kind.TheVariants as kind
use Rattle.wc_syntax.specs.declared.role.Role.TheVariants as role
use Rattle.wc_symbols.specs.declared.symbol.Value.TheVariants.{Instruction}
use Rattle.wc_symbols.specs.Standard.Symbols.{valued}
use Rattle.wc_surface.specs.Standard.Identifiers.{identifier}
use Rattle.wc_surface.specs.Standard.Written.Indices.{number, named}
use Rattle.wc_surface.specs.Standard.Written.Instructions.{simple, i32_const}
use Rattle.wc_surface.specs.Standard.Written.Fields.{Import, Desc, Function, Table, Memory, Global, Declared}
use Rattle.wc_surface.specs.Standard.Written.Fields.{type_field, import_field, func_field, table_field, memory_field}
use Rattle.wc_surface.specs.Standard.Written.Fields.{global_field, export_field, start_field, elem_field, data_field}
use Rattle.wc_parse_code.specs.Standard.Tokens.{kept_token}
use Rattle.wc_parse_code.specs.Standard.Productions.Tokens.{Said, ◌⊳◌, IsIdentifier, IsId, IsIndex, IsLiteral}
use Rattle.wc_parse_code.specs.Standard.Productions.TypeUses.{AreTypes, param, IsParam, AreParams, AreResults}
use Rattle.wc_parse_code.specs.Standard.Productions.TypeUses.{signature, IsSignature, type_use, IsTypeUse}
use Rattle.wc_parse_code.specs.Standard.Productions.Plain.{IsPlain}
use Rattle.wc_parse_code.specs.Standard.Productions.Instructions.{Says, instrs, foldedinstr}
use Rattle.wc_parse_field.specs.Standard.Productions.Parts.{AreStrings, AreElements, AreExports, IsDeclared, IsImport}
use Rattle.wc_parse_field.specs.Standard.Productions.Parts.{IsInlineImport, AreUnnamed, IsLocal, AreLocals, AreLimits}
use Rattle.wc_parse_field.specs.Standard.Productions.Parts.{IsGlobalType, IsKind, IsOffset, IsTarget}
use Rattle.wc_parse_field.specs.Standard.Productions.Fields.{IsDesc, IsFunction, IsTable, IsMemory, IsGlobal, IsField}
use Rattle.wc_parse_field.specs.Standard.Productions.Fields.{AreFields}
use Rattle.wc_parse_field.proofs.Examples.Names.{keyword, close, id_at, natural, letter, name_a, name_b, name_m, name_n}
use Rattle.wc_parse_field.proofs.Examples.Names.{letter_string, a_is_plain, i32_at, i64_at}

-- no identifier and no export
abbrev undeclared : Declared
undeclared = record { id = None; exports = [] }

-- nothing that is said of it
plainly : IsDeclared [] undeclared
plainly = IsDeclared.both IsId.absent AreExports.none

-- `(param i32)`
one_param : {token : ℕ} → AreParams (role.ParamType ⊳ i32_at token ∷ []) (param None I32 ∷ [])
one_param = AreParams.more (IsParam.several (AreTypes.more refl AreTypes.none)) AreParams.none

-- `(param i64)`, with its type at token 18
wide_param : AreParams (role.ParamType ⊳ i64_at 18 ∷ []) (param None I64 ∷ [])
wide_param = AreParams.more (IsParam.several (AreTypes.more refl AreTypes.none)) AreParams.none

-- ---- types

-- `(type $t (func (param i32)))`
a_type : IsField (keyword kind.TypeWord (codes "type") 1)
    (role.FieldId ⊳ id_at (codes "$t") 2 ∷ role.ParamType ⊳ i32_at 7 ∷ [])
    (type_field (Some (identifier 2 (codes "$t"))) (signature (param None I32 ∷ []) []))
a_type = IsField.type_word refl (IsId.there (IsIdentifier.bytes refl)) (IsSignature.both one_param AreResults.none)

-- ---- imports

-- `import "m" "n"`, as the first word of a field
abbrev asked : Import
asked = record { token = 1; «module» = codes "m"; item = codes "n" }

-- its two names
asked_names : IsImport (keyword kind.ImportWord (codes "import") 1)
    (role.ModuleName ⊳ letter 109 2 ∷ role.ItemName ⊳ letter 110 3 ∷ []) asked
asked_names = IsImport.names (name_m 2) (name_n 3)

-- `(import "m" "n" (func $f (type 0)))`
function_import : IsField (keyword kind.ImportWord (codes "import") 1)
    (role.ModuleName ⊳ letter 109 2 ∷ role.ItemName ⊳ letter 110 3
    ∷ role.Description ⊳ keyword kind.FuncWord (codes "func") 5 ∷ role.FieldId ⊳ id_at (codes "$f") 6
    ∷ role.TypeIndex ⊳ natural 0 (codes "0") 9 ∷ [])
    (import_field asked (Some (identifier 6 (codes "$f")))
    (Desc.func (type_use (Some (number 9 0)) (signature [] []))))
function_import = IsField.import_word refl asked_names (IsDesc.func refl (IsId.there (IsIdentifier.bytes refl))
    (IsTypeUse.indexed (IsIndex.u32 (record { kind_is = refl; value_is = refl }))
    (IsSignature.both AreParams.none AreResults.none)))

-- `(import "m" "n" (table 2 funcref))`
table_import : IsField (keyword kind.ImportWord (codes "import") 1)
    (role.ModuleName ⊳ letter 109 2 ∷ role.ItemName ⊳ letter 110 3
    ∷ role.Description ⊳ keyword kind.TableWord (codes "table") 5 ∷ role.LimitsMin ⊳ natural 2 (codes "2") 6 ∷ [])
    (import_field asked None (Desc.table (record { min = 2; max = None })))
table_import = IsField.import_word refl asked_names (IsDesc.table refl IsId.absent
    (AreLimits.least (record { kind_is = refl; value_is = refl })))

-- `(import "m" "n" (memory 2))`
memory_import : IsField (keyword kind.ImportWord (codes "import") 1)
    (role.ModuleName ⊳ letter 109 2 ∷ role.ItemName ⊳ letter 110 3
    ∷ role.Description ⊳ keyword kind.MemoryWord (codes "memory") 5 ∷ role.LimitsMin ⊳ natural 2 (codes "2") 6 ∷ [])
    (import_field asked None (Desc.memory (record { min = 2; max = None })))
memory_import = IsField.import_word refl asked_names (IsDesc.memory refl IsId.absent
    (AreLimits.least (record { kind_is = refl; value_is = refl })))

-- `(import "m" "n" (global i32))`
global_import : IsField (keyword kind.ImportWord (codes "import") 1)
    (role.ModuleName ⊳ letter 109 2 ∷ role.ItemName ⊳ letter 110 3
    ∷ role.Description ⊳ keyword kind.GlobalWord (codes "global") 5 ∷ role.GlobalType ⊳ i32_at 6 ∷ [])
    (import_field asked None (Desc.global (record { ty = I32; mutable = false })))
global_import = IsField.import_word refl asked_names (IsDesc.global refl IsId.absent (IsGlobalType.constant refl))

-- `(import "m" "n")`, as a part of a field
inline_import : {token : ℕ} {m n : ℕ} → IsInlineImport
    (role.ImportWord ⊳ keyword kind.ImportWord (codes "import") token ∷ role.ModuleName ⊳ letter 109 m
    ∷ role.ItemName ⊳ letter 110 n ∷ [])
    (record { token = token; «module» = codes "m"; item = codes "n" })
inline_import {token} {m} {n} = IsInlineImport.word (IsImport.names (name_m m) (name_n n))

-- ---- functions

-- `(func $f (export "a") (export "b") (import "m" "n") (param i64))`
imported_function : IsField (keyword kind.FuncWord (codes "func") 1)
    (role.FieldId ⊳ id_at (codes "$f") 2 ∷ role.ExportName ⊳ letter 97 5 ∷ role.ExportName ⊳ letter 98 9
    ∷ role.ImportWord ⊳ keyword kind.ImportWord (codes "import") 12 ∷ role.ModuleName ⊳ letter 109 13
    ∷ role.ItemName ⊳ letter 110 14 ∷ role.ParamType ⊳ i64_at 18 ∷ [])
    (func_field 1 (record { id = Some (identifier 2 (codes "$f")); exports = codes "a" ∷ codes "b" ∷ [] })
    (Function.imported (record { token = 12; «module» = codes "m"; item = codes "n" })
    (type_use None (signature (param None I64 ∷ []) []))))
imported_function = IsField.func_word refl
    (IsDeclared.both (IsId.there (IsIdentifier.bytes refl))
    (AreExports.more (name_a 5) (AreExports.more (name_b 9) AreExports.none)))
    (IsFunction.imported inline_import (IsTypeUse.inline (IsSignature.both wide_param AreResults.none)))

-- `(local i64)`, with its type at token 8
one_local : AreLocals (role.LocalType ⊳ i64_at 8 ∷ []) (record { id = None; ty = I64; token = 8 } ∷ [])
one_local = AreLocals.more (IsLocal.several (AreUnnamed.more refl AreUnnamed.none)) AreLocals.none

-- `(func (param i32) (local i64) nop)`
function : IsField (keyword kind.FuncWord (codes "func") 1)
    (role.ParamType ⊳ i32_at 4 ∷ role.LocalType ⊳ i64_at 8
    ∷ role.Plain ⊳ kept_token 10 (valued kind.Simple (Instruction (op.Simple Nop))) (codes "nop") ∷ [])
    (func_field 1 undeclared
    (Function.code (type_use None (signature (param None I32 ∷ []) []))
    (record { id = None; ty = I64; token = 8 } ∷ []) (Code.op (simple Nop) Code.empty)))
function = IsField.func_word refl plainly
    (IsFunction.code (IsTypeUse.inline (IsSignature.both one_param AreResults.none)) one_local
    (Says.more (Says.plain (IsPlain.simple_name refl)) Says.none))

-- ---- tables and memories

-- `(table 2 1 funcref)`
limited_table : IsField (keyword kind.TableWord (codes "table") 1)
    (role.LimitsMin ⊳ natural 2 (codes "2") 2 ∷ role.LimitsMax ⊳ natural 1 (codes "1") 3 ∷ [])
    (table_field undeclared (Table.limits (record { min = 2; max = Some 1 })))
limited_table = IsField.table_word refl plainly
    (IsTable.limits (AreLimits.both (record { kind_is = refl; value_is = refl })
    (record { kind_is = refl; value_is = refl })))

-- `(table (import "m" "n") 2 funcref)`
imported_table : IsField (keyword kind.TableWord (codes "table") 1)
    (role.ImportWord ⊳ keyword kind.ImportWord (codes "import") 3 ∷ role.ModuleName ⊳ letter 109 4
    ∷ role.ItemName ⊳ letter 110 5 ∷ role.LimitsMin ⊳ natural 2 (codes "2") 7 ∷ [])
    (table_field undeclared
    (Table.imported (record { token = 3; «module» = codes "m"; item = codes "n" }) (record { min = 2; max = None })))
imported_table = IsField.table_word refl plainly
    (IsTable.imported inline_import (AreLimits.least (record { kind_is = refl; value_is = refl })))

-- `(table funcref (elem $f $f))`
table_of_elements : IsField (keyword kind.TableWord (codes "table") 1)
    (role.Segment ⊳ keyword kind.ElemWord (codes "elem") 4 ∷ role.Element ⊳ id_at (codes "$f") 5
    ∷ role.Element ⊳ id_at (codes "$f") 6 ∷ [])
    (table_field undeclared
    (Table.elements (named (identifier 5 (codes "$f")) ∷ named (identifier 6 (codes "$f")) ∷ [])))
table_of_elements = IsField.table_word refl plainly
    (IsTable.elements (AreElements.more (IsIndex.id (IsIdentifier.bytes refl))
    (AreElements.more (IsIndex.id (IsIdentifier.bytes refl)) AreElements.none)))

-- `(memory 2)`
limited_memory : IsField (keyword kind.MemoryWord (codes "memory") 1) (role.LimitsMin ⊳ natural 2 (codes "2") 2 ∷ [])
    (memory_field undeclared (Memory.limits (record { min = 2; max = None })))
limited_memory = IsField.memory_word refl plainly
    (IsMemory.limits (AreLimits.least (record { kind_is = refl; value_is = refl })))

-- `(memory (import "m" "n") 2)`
imported_memory : IsField (keyword kind.MemoryWord (codes "memory") 1)
    (role.ImportWord ⊳ keyword kind.ImportWord (codes "import") 3 ∷ role.ModuleName ⊳ letter 109 4
    ∷ role.ItemName ⊳ letter 110 5 ∷ role.LimitsMin ⊳ natural 2 (codes "2") 7 ∷ [])
    (memory_field undeclared
    (Memory.imported (record { token = 3; «module» = codes "m"; item = codes "n" }) (record { min = 2; max = None })))
imported_memory = IsField.memory_word refl plainly
    (IsMemory.imported inline_import (AreLimits.least (record { kind_is = refl; value_is = refl })))

-- `(memory (data))`
memory_of_bytes : IsField (keyword kind.MemoryWord (codes "memory") 1)
    (role.Segment ⊳ keyword kind.DataWord (codes "data") 3 ∷ [])
    (memory_field undeclared (Memory.bytes []))
memory_of_bytes = IsField.memory_word refl plainly (IsMemory.bytes AreStrings.none)

-- ---- globals

-- 0, in digits
zero_spelled : Natural (codes "0") 0
unfolding digit_of
zero_spelled = Natural.decimal (Digits.one 48 (lit< tt))

-- the kept tokens of `(i32.const 0)`, by the numbers of three of them
abbrev zero_row : ℕ → ℕ → ℕ → List Said
zero_row first second third =
    role.HeldPlain ⊳ kept_token first (valued kind.Const32 (Instruction op.I32Const)) (codes "i32.const")
    ∷ role.Literal ⊳ natural 0 (codes "0") second ∷ role.HeldEnd ⊳ close third ∷ []

-- what it says
folded_zero : (first second third : ℕ)
    → Says foldedinstr (zero_row first second third) (Code.op (i32_const 0) Code.empty)
folded_zero first second third = Says.folded_plain (close third)
    (IsPlain.i32_const_name refl (IsLiteral.spelled (Literal.unsigned zero_spelled) (lit< tt))) Says.no_folded

-- `(global $g (mut i64) (i32.const 0))`: that its value has another type is judged later
defined_global : IsField (keyword kind.GlobalWord (codes "global") 1)
    (role.FieldId ⊳ id_at (codes "$g") 2 ∷ role.Mutable ⊳ keyword kind.MutWord (codes "mut") 4
    ∷ role.GlobalType ⊳ i64_at 5 ∷ zero_row 8 9 10)
    (global_field (record { id = Some (identifier 2 (codes "$g")); exports = [] })
    (Global.init (record { ty = I64; mutable = true }) (Code.op (i32_const 0) Code.empty)))
defined_global = IsField.global_word refl (IsDeclared.both (IsId.there (IsIdentifier.bytes refl)) AreExports.none)
    (IsGlobal.init (IsGlobalType.variable refl) (Says.more (Says.folded (folded_zero 8 9 10)) Says.none))

-- `(global (import "m" "n") i32)`
imported_global : IsField (keyword kind.GlobalWord (codes "global") 1)
    (role.ImportWord ⊳ keyword kind.ImportWord (codes "import") 3 ∷ role.ModuleName ⊳ letter 109 4
    ∷ role.ItemName ⊳ letter 110 5 ∷ role.GlobalType ⊳ i32_at 7 ∷ [])
    (global_field undeclared
    (Global.imported (record { token = 3; «module» = codes "m"; item = codes "n" })
    (record { ty = I32; mutable = false })))
imported_global = IsField.global_word refl plainly (IsGlobal.imported inline_import (IsGlobalType.constant refl))

-- ---- exports and the start

-- `(export "a" (func 0))`
an_export : IsField (keyword kind.ExportWord (codes "export") 1)
    (role.ExportName ⊳ letter 97 2 ∷ role.Description ⊳ keyword kind.FuncWord (codes "func") 4
    ∷ role.Target ⊳ natural 0 (codes "0") 5 ∷ [])
    (export_field (codes "a") export.Func (number 5 0))
an_export = IsField.export_word refl (name_a 2) (IsKind.func refl)
    (IsIndex.u32 (record { kind_is = refl; value_is = refl }))

-- `(start $s)`
a_start : IsField (keyword kind.StartWord (codes "start") 1) (role.Target ⊳ id_at (codes "$s") 2 ∷ [])
    (start_field 1 (named (identifier 2 (codes "$s"))))
a_start = IsField.start_word refl (IsIndex.id (IsIdentifier.bytes refl))

-- ---- segments

-- `(elem (i32.const 0) func 0)`
an_elem : IsField (keyword kind.ElemWord (codes "elem") 1)
    (role.HeldPlain ⊳ kept_token 3 (valued kind.Const32 (Instruction op.I32Const)) (codes "i32.const")
    ∷ role.Literal ⊳ natural 0 (codes "0") 4 ∷ role.HeldEnd ⊳ close 5
    ∷ role.Element ⊳ natural 0 (codes "0") 7 ∷ [])
    (elem_field None (Code.op (i32_const 0) Code.empty) (number 7 0 ∷ []))
an_elem = IsField.elem_word refl IsTarget.absent (IsOffset.short (folded_zero 3 4 5))
    (AreElements.more (IsIndex.u32 (record { kind_is = refl; value_is = refl })) AreElements.none)

-- `i32.const 0`, at token 5
plain_zero : Says instrs
    (role.Plain ⊳ kept_token 5 (valued kind.Const32 (Instruction op.I32Const)) (codes "i32.const")
    ∷ role.Literal ⊳ natural 0 (codes "0") 6 ∷ [])
    (Code.op (i32_const 0) Code.empty)
plain_zero = Says.more (Says.plain
    (IsPlain.i32_const_name refl (IsLiteral.spelled (Literal.unsigned zero_spelled) (lit< tt)))) Says.none

-- `(data 0 (offset i32.const 0) "a" "a")`
a_data : IsField (keyword kind.DataWord (codes "data") 1)
    (role.Target ⊳ natural 0 (codes "0") 2
    ∷ role.Plain ⊳ kept_token 5 (valued kind.Const32 (Instruction op.I32Const)) (codes "i32.const")
    ∷ role.Literal ⊳ natural 0 (codes "0") 6 ∷ role.Bytes ⊳ letter 97 8 ∷ role.Bytes ⊳ letter 97 9 ∷ [])
    (data_field (Some (number 2 0)) (Code.op (i32_const 0) Code.empty) (codes "aa"))
a_data = IsField.data_word refl (IsTarget.there (IsIndex.u32 (record { kind_is = refl; value_is = refl })))
    (IsOffset.word plain_zero)
    (AreStrings.more (letter_string 97 a_is_plain) (AreStrings.more (letter_string 97 a_is_plain) AreStrings.none))

-- ---- several fields

-- `(memory 2) (start $s)`
two_fields : AreFields
    (role.Field ⊳ keyword kind.MemoryWord (codes "memory") 1 ∷ role.LimitsMin ⊳ natural 2 (codes "2") 2
    ∷ role.FieldEnd ⊳ close 3 ∷ role.Field ⊳ keyword kind.StartWord (codes "start") 5
    ∷ role.Target ⊳ id_at (codes "$s") 6 ∷ role.FieldEnd ⊳ close 7 ∷ [])
    (memory_field undeclared (Memory.limits (record { min = 2; max = None }))
    ∷ start_field 5 (named (identifier 6 (codes "$s"))) ∷ [])
two_fields = AreFields.more (close 3) limited_memory
    (AreFields.more (close 7) (IsField.start_word refl (IsIndex.id (IsIdentifier.bytes refl))) AreFields.none)
