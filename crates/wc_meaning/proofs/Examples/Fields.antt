-- Fields, with what stands inside them.
use Rattle.std.specs.Prelude.{pos, true, List, [], ◌∷◌, Some, None, refl, codes}
use Rattle.wc_ops.specs.declared.op.IndexOp.TheVariants.{Call, GlobalGet}
use Rattle.wc_ops.specs.declared.val_type.ValType.TheVariants.{I32}
use Rattle.wc_body.specs.declared.instr.Instr.TheVariants as binary
use Rattle.wc_body.specs.Standard.Nested.{Code}
use Rattle.wc_ast.specs.declared.export.ExportKind.TheVariants as kind
use Rattle.wc_ast.specs.declared.import.Desc.TheVariants as brought
use Rattle.wc_surface.specs.Standard.Written.Indices.{number, named}
use Rattle.wc_surface.specs.Standard.Written.Instructions.{indexed, i32_const}
use Rattle.wc_surface.specs.Standard.Written.Fields.{Desc, Function, Table, Memory, Global, Field, import_field}
use Rattle.wc_surface.specs.Standard.Written.Fields.{func_field, table_field, memory_field, global_field}
use Rattle.wc_surface.specs.Standard.Written.Fields.{export_field, start_field, elem_field, data_field}
use Rattle.wc_meaning.specs.Standard.Denoted.{Means}
use Rattle.wc_meaning.proofs.Examples.Parts.{a_at, b_at, no_use, plain, named_plain, import_at, func_type}
use Rattle.wc_meaning.proofs.Examples.Parts.{func_of, no_module}

-- ---- `(func $a (export "e") (import "m" "n"))`, `(func $b (export "e") call $a)`, `(export "f" (func $b))` and
-- `(start $a)`: an import inside a field, and the indices of exports

abbrev functions : List Field
functions = func_field 1 (record { id = Some (a_at 2); exports = codes "e" ∷ [] })
    (Function.imported (import_at 8) no_use)
    ∷ func_field 14 (record { id = Some (b_at 15); exports = codes "e" ∷ [] })
    (Function.code no_use [] (Code.op (indexed Call (named (a_at 21))) Code.empty))
    ∷ export_field (codes "f") kind.Func (named (b_at 28)) ∷ start_field 32 (named (a_at 33)) ∷ []

meant_functions : Means functions (record no_module {
  types = func_type [] [] ∷ [];
  imports = record { «module» = codes "m"; name = codes "n"; desc = brought.Func 0 } ∷ [];
  funcs = func_of 0 (Code.op (binary.Index Call 0) Code.empty) ∷ [];
  exports = record { name = codes "e"; kind = kind.Func; index = 0 }
      ∷ record { name = codes "e"; kind = kind.Func; index = 1 }
      ∷ record { name = codes "f"; kind = kind.Func; index = 1 } ∷ [];
  start = Some 0;
})
meant_functions = record { right = refl; same = refl }

-- ---- `(import "m" "n" (table 1 funcref))`, `(table $a funcref (elem 7 8))` and `(elem $a (i32.const 3) 9)`: elements
-- inside a table are a segment of it

abbrev tables : List Field
tables = import_field (import_at 1) None (Desc.table (record { min = 1; max = None }))
    ∷ table_field (named_plain (a_at 12)) (Table.elements (number 16 7 ∷ number 17 8 ∷ []))
    ∷ elem_field (Some (named (a_at 22))) (Code.op (i32_const 3) Code.empty) (number 27 9 ∷ []) ∷ []

meant_tables : Means tables (record no_module {
  imports = record {
    «module» = codes "m";
    name = codes "n";
    desc = brought.Table (record { min = 1; max = None });
  } ∷ [];
  tables = record { min = 2; max = Some 2 } ∷ [];
  elems = record { table = 1; offset = Code.op (binary.I32Const (pos 0)) Code.empty; funcs = 7 ∷ 8 ∷ [] }
      ∷ record { table = 1; offset = Code.op (binary.I32Const (pos 3)) Code.empty; funcs = 9 ∷ [] } ∷ [];
})
meant_tables = record { right = refl; same = refl }

-- ---- `(memory (data "ab"))`, `(global $a (mut i32) (i32.const 5))` and `(data (global.get $a) "c")`: bytes inside a
-- memory take pages, and where no memory is written it is the first

abbrev memories : List Field
memories = memory_field plain (Memory.bytes (codes "ab"))
    ∷ global_field (named_plain (a_at 9))
    (Global.init (record { ty = I32; mutable = true }) (Code.op (i32_const 5) Code.empty))
    ∷ data_field None (Code.op (indexed GlobalGet (named (a_at 23))) Code.empty) (codes "c") ∷ []

meant_memories : Means memories (record no_module {
  mems = record { min = 1; max = Some 1 } ∷ [];
  globals = record {
    ty = record { ty = I32; mutable = true };
    init = Code.op (binary.I32Const (pos 5)) Code.empty;
  } ∷ [];
  datas = record { memory = 0; offset = Code.op (binary.I32Const (pos 0)) Code.empty; bytes = codes "ab" }
      ∷ record { memory = 0; offset = Code.op (binary.Index GlobalGet 0) Code.empty; bytes = codes "c" } ∷ [];
})
meant_memories = record { right = refl; same = refl }
