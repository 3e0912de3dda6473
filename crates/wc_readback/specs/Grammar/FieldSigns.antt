-- What is printed of fields and of modules, with what each token says (Core 1.0, 6.6).
use Rattle.std.specs.Prelude.{ℕ, Bool, true, false, Option, Some, None, List, [], ◌∷◌, ◌++◌}
use Rattle.std.specs.List.{flat_map}
use Rattle.wc_ops.specs.declared.val_type.ValType.{ValType as ValueType}
use Rattle.wc_ast.specs.declared.func_type.FuncType.{FuncType}
use Rattle.wc_body.specs.declared.instr.BlockType.{BlockType}
use Rattle.wc_body.specs.declared.instr.Instr.{Instr}
use Rattle.wc_body.specs.Standard.Nested.{Code}
use Rattle.wc_ast.specs.declared.limits.Limits.{Limits}
use Rattle.wc_ast.specs.declared.import.Desc.{Desc}
use Rattle.wc_ast.specs.declared.import.Desc.TheVariants as descs
use Rattle.wc_ast.specs.declared.import.Import.{Import}
use Rattle.wc_ast.specs.declared.func.Func.{Func}
use Rattle.wc_ast.specs.declared.func.Global.{Global}
use Rattle.wc_ast.specs.declared.export.ExportKind.{ExportKind}
use Rattle.wc_ast.specs.declared.export.ExportKind.TheVariants as export_kinds
use Rattle.wc_ast.specs.declared.export.Export.{Export}
use Rattle.wc_ast.specs.declared.segment.Elem.{Elem}
use Rattle.wc_ast.specs.declared.segment.Data.{Data}
use Rattle.wc_ast.specs.declared.module.Module.{Module}
use Rattle.wc_syntax.specs.declared.kind.Kind.{Kind}
use Rattle.wc_syntax.specs.declared.kind.Kind.TheVariants as kind
use Rattle.wc_syntax.specs.declared.role.Role.TheVariants as role
use Rattle.wc_readback.specs.Grammar.Signs.{Sign, opens, closes, ends, key, kept_key, type_sign, natural, name, string}
use Rattle.wc_readback.specs.Grammar.InstructionSigns.{values_signs, type_use_signs, naturals, code_signs}

-- the word of a field
abbrev pub field : Kind → Sign
field k = kept_key role.Field k

-- `func` or the like, in an import or an export
abbrev pub described : Kind → Sign
described k = kept_key role.Description k

-- `(func (param i32) (result i32))` (6.4.3)
abbrev pub functype_signs : FuncType → List Sign
functype_signs t =
    opens ∷ key kind.FuncWord
    ∷ (values_signs kind.ParamWord role.ParamType t.params
    ++ (values_signs kind.ResultWord role.ResultType t.results
    ++ (closes ∷ [])))

-- `(type (func ..))` (6.6.2)
abbrev pub type_signs : FuncType → List Sign
type_signs t = opens ∷ field kind.TypeWord ∷ (functype_signs t ++ (ends ∷ []))

-- the greatest size, where there is one
abbrev pub max_signs : Option ℕ → List Sign
max_signs None = []
max_signs (Some n) = natural role.LimitsMax n ∷ []

-- `1 2`, or `1` where there is no greatest size (6.4.4)
abbrev pub limits_signs : Limits → List Sign
limits_signs l = natural role.LimitsMin l.min ∷ max_signs l.max

-- `1 2 funcref` (6.4.6)
abbrev pub tabletype_signs : Limits → List Sign
tabletype_signs l = limits_signs l ++ (key kind.FuncrefWord ∷ [])

-- `i32`, or `(mut i32)` (6.4.7)
abbrev pub globaltype_signs : Bool → ValueType → List Sign
globaltype_signs false t = type_sign role.GlobalType t ∷ []
globaltype_signs true t = opens ∷ kept_key role.Mutable kind.MutWord ∷ type_sign role.GlobalType t ∷ closes ∷ []

-- `func (type 0)`, `table 1 funcref`, `memory 1` or `global i32` (6.6.4)
abbrev pub desc_signs : Desc → List Sign
desc_signs (descs.Func index) = described kind.FuncWord ∷ type_use_signs index
desc_signs (descs.Table l) = described kind.TableWord ∷ tabletype_signs l
desc_signs (descs.Memory l) = described kind.MemoryWord ∷ limits_signs l
desc_signs (descs.Global g) = described kind.GlobalWord ∷ globaltype_signs g.mutable g.ty

-- `(import "m" "n" (..))` (6.6.4)
abbrev pub import_signs : Import → List Sign
import_signs i =
    opens ∷ field kind.ImportWord ∷ name role.ModuleName i.«module» ∷ name role.ItemName i.name
    ∷ opens ∷ (desc_signs i.desc ++ (closes ∷ ends ∷ []))

-- the type, the locals and the instructions of a function
abbrev pub function_signs : Func → List Sign
function_signs f =
    type_use_signs f.ty ++ (values_signs kind.LocalWord role.LocalType f.locals ++ code_signs f.body)

-- `(func (type 0) (local i32) ..)` (6.6.5)
abbrev pub func_signs : Func → List Sign
func_signs f = opens ∷ field kind.FuncWord ∷ (function_signs f ++ (ends ∷ []))

-- `(table 1 funcref)` (6.6.6)
abbrev pub table_signs : Limits → List Sign
table_signs l = opens ∷ field kind.TableWord ∷ (tabletype_signs l ++ (ends ∷ []))

-- `(memory 1)` (6.6.7)
abbrev pub memory_signs : Limits → List Sign
memory_signs l = opens ∷ field kind.MemoryWord ∷ (limits_signs l ++ (ends ∷ []))

-- `(global (mut i32) i32.const 0)` (6.6.8)
abbrev pub global_signs : Global → List Sign
global_signs g =
    opens ∷ field kind.GlobalWord ∷ ((globaltype_signs g.ty.mutable g.ty.ty ++ code_signs g.init) ++ (ends ∷ []))

-- the word of an index space (6.6.9)
abbrev pub space_word : ExportKind → Kind
space_word export_kinds.Func = kind.FuncWord
space_word export_kinds.Table = kind.TableWord
space_word export_kinds.Memory = kind.MemoryWord
space_word export_kinds.Global = kind.GlobalWord

-- `(export "n" (func 0))` (6.6.9)
abbrev pub export_signs : Export → List Sign
export_signs e =
    opens ∷ field kind.ExportWord ∷ name role.ExportName e.name
    ∷ opens ∷ described (space_word e.kind) ∷ natural role.Target e.index ∷ closes ∷ ends ∷ []

-- `(start 0)`, where there is a start function (6.6.10)
abbrev pub start_signs : Option ℕ → List Sign
start_signs None = []
start_signs (Some index) = opens ∷ field kind.StartWord ∷ natural role.Target index ∷ ends ∷ []

-- `(offset i32.const 0)` (6.6.11, 6.6.12)
abbrev pub place_signs : Code Instr BlockType → List Sign
place_signs code = opens ∷ key kind.OffsetWord ∷ (code_signs code ++ (closes ∷ []))

-- `(elem 0 (offset ..) 1 2)` (6.6.11)
abbrev pub elem_signs : Elem → List Sign
elem_signs e =
    opens ∷ field kind.ElemWord ∷ natural role.Target e.table
    ∷ (place_signs e.offset ++ (naturals role.Element e.funcs ++ (ends ∷ [])))

-- `(data 0 (offset ..) "a\00")` (6.6.12)
abbrev pub data_signs : Data → List Sign
data_signs d =
    opens ∷ field kind.DataWord ∷ natural role.Target d.memory
    ∷ (place_signs d.offset ++ (string role.Bytes d.bytes ∷ ends ∷ []))

-- the fields of a module
abbrev pub field_signs : Module → List Sign
field_signs m =
    flat_map type_signs m.types
    ++ (flat_map import_signs m.imports
    ++ (flat_map func_signs m.funcs
    ++ (flat_map table_signs m.tables
    ++ (flat_map memory_signs m.mems
    ++ (flat_map global_signs m.globals
    ++ (flat_map export_signs m.exports
    ++ (start_signs m.start
    ++ (flat_map elem_signs m.elems
    ++ flat_map data_signs m.datas))))))))

-- a whole module (6.6.13)
abbrev pub signs : Module → List Sign
signs m = opens ∷ key kind.ModuleWord ∷ (field_signs m ++ (closes ∷ []))
