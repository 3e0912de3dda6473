-- The fields that a printed text says (Core 1.0, 6.6): no identifiers, and the number of each field's first token is n.
use Rattle.std.specs.Prelude.{ℕ, suc, ◌+◌, List, [], ◌∷◌, length, Option, Some, None}
use Rattle.wc_ops.specs.declared.val_type.ValType.{ValType}
use Rattle.wc_ast.specs.declared.func_type.FuncType.{FuncType}
use Rattle.wc_ast.specs.declared.limits.Limits.{Limits}
use Rattle.wc_ast.specs.declared.import.Desc.{Desc}
use Rattle.wc_ast.specs.declared.import.Desc.TheVariants as descs
use Rattle.wc_ast.specs.declared.import.Import.{Import}
use Rattle.wc_ast.specs.declared.func.Func.{Func}
use Rattle.wc_ast.specs.declared.func.Global.{Global}
use Rattle.wc_ast.specs.declared.export.Export.{Export}
use Rattle.wc_ast.specs.declared.segment.Elem.{Elem}
use Rattle.wc_ast.specs.declared.segment.Data.{Data}
use Rattle.wc_ast.specs.declared.module.Module.{Module}
use Rattle.wc_syntax.specs.declared.kind.Kind.TheVariants as kind
use Rattle.wc_syntax.specs.declared.role.Role.TheVariants as role
use Rattle.wc_surface.specs.declared.id.Index.{Index}
use Rattle.wc_surface.specs.declared.id.Index.TheVariants as index
use Rattle.wc_surface.specs.declared.type_use.TypeUse.{TypeUse}
use Rattle.wc_surface.specs.declared.type_use.User.TheVariants as user
use Rattle.wc_surface.specs.declared.local.Local.{Local}
use Rattle.wc_surface.specs.declared.field.Field.{Field}
use Rattle.wc_surface.specs.declared.field.Field.TheVariants as field
use Rattle.wc_surface.specs.declared.field.ImportDesc.{ImportDesc}
use Rattle.wc_surface.specs.declared.field.ImportDesc.TheVariants as import
use Rattle.wc_surface.specs.declared.field.FuncDesc.TheVariants as func
use Rattle.wc_surface.specs.declared.field.TableDesc.TheVariants as table
use Rattle.wc_surface.specs.declared.field.MemoryDesc.TheVariants as memory
use Rattle.wc_surface.specs.declared.field.GlobalDesc.TheVariants as global
use Rattle.wc_surface.specs.Standard.Keys.{func_type}
use Rattle.wc_surface.specs.Standard.WrittenLocals.{local}
use Rattle.wc_readback.specs.Grammar.Signs.{Sign}
use Rattle.wc_readback.specs.Grammar.InstructionSigns.{values_signs, code_signs}
use Rattle.wc_readback.specs.Grammar.FieldSigns.{type_signs, globaltype_signs, import_signs, func_signs, table_signs}
use Rattle.wc_readback.specs.Grammar.FieldSigns.{memory_signs, global_signs, export_signs, start_signs, elem_signs}
use Rattle.wc_readback.specs.Grammar.FieldSigns.{data_signs}
use Rattle.wc_readback.specs.Instructions.Bodies.{text_body}

-- a type by its index, whose token has this number
abbrev pub use_by : ℕ → ℕ → ℕ → TypeUse
use_by word at n = record {
  user = user.Func;
  token = word;
  index = Some (index.Number at n);
  signature = func_type [] [];
  names = [];
}

-- the field of a type (6.6.2)
abbrev pub type_field : ℕ → FuncType → Field
type_field n t = field.FuncType (record { id = None; signature = func_type t.params t.results; names = [] })

-- what an import brings: a function, whose type stands by its index, a table, a memory or a global (6.6.4)
abbrev pub import_desc : ℕ → Desc → ImportDesc
import_desc n (descs.Func i) = import.Func (use_by (suc n) (suc (suc (suc (suc (suc (suc (suc (suc n)))))))) i)
import_desc n (descs.Table l) = import.Table l
import_desc n (descs.Memory l) = import.Memory l
import_desc n (descs.Global g) = import.Global g

-- the field of an import (6.6.4)
abbrev pub import_field : ℕ → Import → Field
import_field n i = field.Import (record {
  names = record { token = suc n; «module» = i.«module»; item = i.name };
  id = None;
  desc = import_desc n i.desc;
})

-- locals without identifiers, whose types are tokens one behind the other
abbrev pub locals_along : ℕ → List ValType → List Local
locals_along n [] = []
locals_along n (t ∷ ts) = local None t n ∷ locals_along (suc n) ts

-- the number of the token behind these signs
abbrev pub behind : List Sign → ℕ → ℕ
behind ss n = length ss + n

-- the field of a function (6.6.5)
abbrev pub func_field : ℕ → Func → Field
func_field n f =
    let after = suc (suc (suc (suc (suc (suc n))))) in
    field.Func (record {
      id = None;
      exports = [];
      ty = use_by (suc n) (suc (suc (suc (suc n)))) f.ty;
      desc = func.Code (locals_along (suc (suc after)) f.locals)
          (text_body (behind (values_signs kind.LocalWord role.LocalType f.locals) after) f.body);
    })

-- the field of a table (6.6.6)
abbrev pub table_field : ℕ → Limits → Field
table_field n l = field.Table (record { id = None; exports = []; desc = table.Limits l })

-- the field of a memory (6.6.7)
abbrev pub memory_field : ℕ → Limits → Field
memory_field n l = field.Memory (record { id = None; exports = []; desc = memory.Limits l })

-- the field of a global (6.6.8)
abbrev pub global_field : ℕ → Global → Field
global_field n g = field.Global (record {
  id = None;
  exports = [];
  ty = g.ty;
  desc = global.Init (text_body (behind (globaltype_signs g.ty.mutable g.ty.ty) (suc (suc n))) g.init);
})

-- the field of an export (6.6.9)
abbrev pub export_field : ℕ → Export → Field
export_field n e =
    field.Export (record { name = e.name; kind = e.kind; index = index.Number (suc (suc (suc (suc (suc n))))) e.index })

-- the field of the start function of this index (6.6.10)
abbrev pub start_field : ℕ → ℕ → Field
start_field n i = field.Start (record { token = suc n; index = index.Number (suc (suc n)) i })

-- indices one behind the other
abbrev pub indices_along : ℕ → List ℕ → List Index
indices_along n [] = []
indices_along n (i ∷ is) = index.Number n i ∷ indices_along (suc n) is

-- the field of an element segment (6.6.11)
abbrev pub elem_field : ℕ → Elem → Field
elem_field n e =
    let code = suc (suc (suc (suc (suc n)))) in
    field.Elem (record {
      table = Some (index.Number (suc (suc n)) e.table);
      offset = text_body code e.offset;
      funcs = indices_along (suc (behind (code_signs e.offset) code)) e.funcs;
    })

-- the field of a data segment (6.6.12)
abbrev pub data_field : ℕ → Data → Field
data_field n d = field.Data (record {
  memory = Some (index.Number (suc (suc n)) d.memory);
  offset = text_body (suc (suc (suc (suc (suc n))))) d.offset;
  bytes = d.bytes;
})

-- ---- one behind the other

-- the fields of a list, and those of what follows
abbrev pub along : {A : Type 0} → (ℕ → A → Field) → (A → List Sign) → ℕ → List A → (ℕ → List Field) → List Field
along f w n [] rest = rest n
along f w n (x ∷ xs) rest = f n x ∷ along f w (behind (w x) n) xs rest

-- the field of a start function, where there is one, and those of what follows
abbrev pub start_along : ℕ → Option ℕ → (ℕ → List Field) → List Field
start_along n None rest = rest n
start_along n (Some i) rest = start_field n i ∷ rest (behind (start_signs (Some i)) n)

-- the fields of a module: the first two tokens are `(module`
abbrev pub text_fields : Module → List Field
text_fields m =
    along type_field type_signs 2 m.types (λ n.
    along import_field import_signs n m.imports (λ n.
    along func_field func_signs n m.funcs (λ n.
    along table_field table_signs n m.tables (λ n.
    along memory_field memory_signs n m.mems (λ n.
    along global_field global_signs n m.globals (λ n.
    along export_field export_signs n m.exports (λ n.
    start_along n m.start (λ n.
    along elem_field elem_signs n m.elems (λ n.
    along data_field data_signs n m.datas (λ n. []))))))))))
