-- Fields (Core 1.0, 6.6.2 to 6.6.13): each abbreviation as it is written.
use Rattle.std.specs.Prelude.{ℕ, List, Option}
use Rattle.wc_ops.specs.declared.val_type.ValType.{ValType}
use Rattle.wc_ast.specs.declared.limits.Limits.{Limits}
use Rattle.wc_ast.specs.declared.limits.GlobalType.{GlobalType}
use Rattle.wc_ast.specs.declared.export.ExportKind.{ExportKind}
use Rattle.wc_surface.specs.Standard.Identifiers.{Identifier}
use Rattle.wc_surface.specs.Standard.Written.Indices.{Index}
use Rattle.wc_surface.specs.Standard.Written.TypeUses.{Signature, TypeUse}
use Rattle.wc_surface.specs.Standard.Written.Instructions.{Instrs}

-- what an import asks for: the number of the word `import`, and the names of a module and of an item in it (6.6.4)
pub record Import : Type 0 where
  pub token : ℕ
  pub «module» : List ℕ
  pub item : List ℕ

-- a declared local: its identifier, where it has one, its type, and the number of the token of its type (6.6.5)
pub record Local : Type 0 where
  pub id : Option Identifier
  pub ty : ValType
  pub token : ℕ

-- what an import field brings (6.6.4)
pub data Desc : Type 0 where
  func : TypeUse → Desc
  table : Limits → Desc
  memory : Limits → Desc
  global : GlobalType → Desc

-- how a function is given (6.6.5)
pub data Function : Type 0 where
  imported : Import → TypeUse → Function
  code : TypeUse → List Local → Instrs → Function

-- how a table is given; the last one by its elements (6.6.6)
pub data Table : Type 0 where
  imported : Import → Limits → Table
  limits : Limits → Table
  elements : List Index → Table

-- how a memory is given; the last one by its bytes (6.6.7)
pub data Memory : Type 0 where
  imported : Import → Limits → Memory
  limits : Limits → Memory
  bytes : List ℕ → Memory

-- how a global is given (6.6.8)
pub data Global : Type 0 where
  imported : Import → GlobalType → Global
  init : GlobalType → Instrs → Global

-- what a field declares: its identifier, where it has one, and the names by which it is exported (6.6.5 to 6.6.8)
pub record Declared : Type 0 where
  pub id : Option Identifier
  pub exports : List (List ℕ)

-- A field, by its word (6.6.2 to 6.6.12). A function's field has the number of its word, which is that of its type use;
-- in an import of a function this is the number of the word `import`.
pub data Field : Type 0 where
  type_field : Option Identifier → Signature → Field
  import_field : Import → Option Identifier → Desc → Field
  func_field : (token : ℕ) → Declared → Function → Field
  table_field : Declared → Table → Field
  memory_field : Declared → Memory → Field
  global_field : Declared → Global → Field
  export_field : (name : List ℕ) → ExportKind → Index → Field
  start_field : (token : ℕ) → Index → Field
  elem_field : (table : Option Index) (offset : Instrs) (funcs : List Index) → Field
  data_field : (memory : Option Index) (offset : Instrs) (bytes : List ℕ) → Field
