-- Fields as they are stored.
use Rattle.std.proofs.Common.{◌≡◌, ℕ, [], ◌∷◌, Some, None, true, refl, codes}
use Rattle.wc_ops.specs.declared.op.SimpleOp.TheVariants.{Nop}
use Rattle.wc_ops.specs.declared.val_type.ValType.TheVariants.{I32, I64}
use Rattle.wc_ast.specs.declared.export.ExportKind.TheVariants as export
use Rattle.wc_body.specs.Standard.Nested.{Code}
use Rattle.wc_surface.specs.declared.instr.TextInstr.TheVariants as instr
use Rattle.wc_surface.specs.declared.id.Index.TheVariants as index
use Rattle.wc_surface.specs.declared.type_use.User.TheVariants as user
use Rattle.wc_surface.specs.declared.field.Field.TheVariants as stored
use Rattle.wc_surface.specs.declared.field.ImportDesc.TheVariants as desc
use Rattle.wc_surface.specs.declared.field.FuncDesc.TheVariants as func
use Rattle.wc_surface.specs.declared.field.TableDesc.TheVariants as table
use Rattle.wc_surface.specs.declared.field.MemoryDesc.TheVariants as memory
use Rattle.wc_surface.specs.declared.field.GlobalDesc.TheVariants as global
use Rattle.wc_surface.specs.declared.head.TextBody.{TextBody}
use Rattle.wc_surface.specs.Standard.Identifiers.{Identifier, identifier}
use Rattle.wc_surface.specs.Standard.Keys.{func_type}
use Rattle.wc_surface.specs.Standard.Written.Indices.{number, named}
use Rattle.wc_surface.specs.Standard.Written.Instructions.{Instrs, simple}
use Rattle.wc_surface.specs.Standard.Written.Fields.{Import, Desc, Function, Table, Memory, Global, type_field}
use Rattle.wc_surface.specs.Standard.Written.Fields.{import_field, func_field, table_field, memory_field, global_field}
use Rattle.wc_surface.specs.Standard.Written.Fields.{export_field, start_field, elem_field, data_field}
use Rattle.wc_parse_code.specs.Standard.Productions.TypeUses.{param, signature, type_use}
use Rattle.wc_parse_field.specs.Stored.Fields.{field_as}

-- `$f`, at the token of this number
abbrev f_at : ℕ → Identifier
f_at token = identifier token (codes "$f")

-- `import "m" "n"`, whose word has this number
abbrev import_at : ℕ → Import
import_at token = record { token = token; «module» = codes "m"; item = codes "n" }

-- `nop`
abbrev nop : Instrs
nop = Code.op (simple Nop) Code.empty

-- the same, as a body is stored
abbrev nop_body : TextBody
nop_body = record { code = Code.op (instr.Simple Nop) Code.empty; heads = []; uses = []; ids = []; labels = [] }

-- `(type $f (func (param i32) (param $f i64) (result i32)))`: the identifier of a parameter with its place
stored_type : field_as (type_field (Some (f_at 2))
    (signature (param None I32 ∷ param (Some (f_at 11)) I64 ∷ []) (I32 ∷ [])))
    ≡ stored.FuncType (record {
      id = Some (f_at 2);
      signature = func_type (I32 ∷ I64 ∷ []) (I32 ∷ []);
      names = record { place = 1; id = f_at 11 } ∷ [];
    })
stored_type = refl

-- `(import "m" "n" (func $f (param i32)))`: the type use has the number of the word `import`
stored_import : field_as (import_field (import_at 1) (Some (f_at 6))
    (Desc.func (type_use None (signature (param None I32 ∷ []) []))))
    ≡ stored.Import (record {
      names = record { token = 1; «module» = codes "m"; item = codes "n" };
      id = Some (f_at 6);
      desc = desc.Func (record {
        user = user.Func;
        token = 1;
        index = None;
        signature = func_type (I32 ∷ []) [];
        names = [];
      });
    })
stored_import = refl

-- `(func $f (export "m") (local i32 i64) nop)`
stored_func : field_as (func_field 1 (record { id = Some (f_at 2); exports = codes "m" ∷ [] })
    (Function.code (type_use None (signature [] []))
    (record { id = None; ty = I32; token = 9 } ∷ record { id = None; ty = I64; token = 10 } ∷ []) nop))
    ≡ stored.Func (record {
      id = Some (f_at 2);
      exports = codes "m" ∷ [];
      ty = record { user = user.Func; token = 1; index = None; signature = func_type [] []; names = [] };
      desc = func.Code (record { id = None; ty = I32; token = 9 } ∷ record { id = None; ty = I64; token = 10 } ∷ [])
          nop_body;
    })
stored_func = refl

-- `(table funcref (elem $f 0))`
stored_table : field_as (table_field (record { id = None; exports = [] })
    (Table.elements (named (f_at 5) ∷ number 6 0 ∷ [])))
    ≡ stored.Table (record {
      id = None;
      exports = [];
      desc = table.Elems (index.Named (f_at 5) ∷ index.Number 6 0 ∷ []);
    })
stored_table = refl

-- `(memory (export "n") (data "m"))`
stored_memory : field_as (memory_field (record { id = None; exports = codes "n" ∷ [] }) (Memory.bytes (codes "m")))
    ≡ stored.Memory (record { id = None; exports = codes "n" ∷ []; desc = memory.Bytes (codes "m") })
stored_memory = refl

-- `(global (import "m" "n") (mut i64))`
stored_global : field_as (global_field (record { id = None; exports = [] })
    (Global.imported (import_at 3) (record { ty = I64; mutable = true })))
    ≡ stored.Global (record {
      id = None;
      exports = [];
      ty = record { ty = I64; mutable = true };
      desc = global.Import (record { token = 3; «module» = codes "m"; item = codes "n" });
    })
stored_global = refl

-- `(export "m" (func $f))`
stored_export : field_as (export_field (codes "m") export.Func (named (f_at 5)))
    ≡ stored.Export (record { name = codes "m"; kind = export.Func; index = index.Named (f_at 5) })
stored_export = refl

-- `(start $f)`
stored_start : field_as (start_field 1 (named (f_at 2)))
    ≡ stored.Start (record { token = 1; index = index.Named (f_at 2) })
stored_start = refl

-- `(elem (offset nop) 0 $f)`
stored_elem : field_as (elem_field None nop (number 6 0 ∷ named (f_at 7) ∷ []))
    ≡ stored.Elem (record {
      table = None;
      offset = nop_body;
      funcs = index.Number 6 0 ∷ index.Named (f_at 7) ∷ [];
    })
stored_elem = refl

-- `(data 0 (offset nop) "m")`
stored_data : field_as (data_field (Some (number 2 0)) nop (codes "m"))
    ≡ stored.Data (record { memory = Some (index.Number 2 0); offset = nop_body; bytes = codes "m" })
stored_data = refl
