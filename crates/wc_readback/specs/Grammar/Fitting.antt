-- Modules whose numbers have the widths of their types (Core 1.0, 2.2.2, 2.2.4 and 2.5), as every module that a
-- program holds.
use Rattle.std.specs.Prelude.{ℕ, Option, Some, None, List, IsUtf8}
use Rattle.std.specs.List.{AllByRecursion}
use Rattle.wc_body.specs.Standard.ValueBytes.{Fits32}
use Rattle.wc_body.specs.Standard.InstructionBytes.{FitsExpr}
use Rattle.wc_ast.specs.declared.limits.Limits.{Limits}
use Rattle.wc_ast.specs.declared.import.Desc.{Desc}
use Rattle.wc_ast.specs.declared.import.Desc.TheVariants as descs
use Rattle.wc_ast.specs.declared.import.Import.{Import}
use Rattle.wc_ast.specs.declared.func.Func.{Func}
use Rattle.wc_ast.specs.declared.func.Global.{Global}
use Rattle.wc_ast.specs.declared.export.Export.{Export}
use Rattle.wc_ast.specs.declared.segment.Elem.{Elem}
use Rattle.wc_ast.specs.declared.segment.Data.{Data}
use Rattle.wc_ast.specs.declared.module.Module.{Module}
use Rattle.wc_print.specs.Standard.Printable.{IsByte}

-- where there is a number
abbrev pub FitsOptional : Option ℕ → Type 0
FitsOptional None = Unit {0}
FitsOptional (Some n) = Fits32 n

-- both sizes (2.3.4)
abbrev pub FitsLimits : Limits → Type 0
FitsLimits l = Fits32 l.min × FitsOptional l.max

-- a name is the UTF-8 of some characters
abbrev pub FitsName : List ℕ → Type 0
FitsName bytes = IsUtf8 bytes

-- what is imported, and its type
abbrev pub FitsDesc : Desc → Type 0
FitsDesc (descs.Func index) = Fits32 index
FitsDesc (descs.Table l) = FitsLimits l
FitsDesc (descs.Memory l) = FitsLimits l
FitsDesc (descs.Global g) = Unit {0}

-- both names, and what is imported
abbrev pub FitsImport : Import → Type 0
FitsImport i = FitsName i.«module» × FitsName i.name × FitsDesc i.desc

-- the index of the type, and the instructions
abbrev pub FitsFunc : Func → Type 0
FitsFunc f = Fits32 f.ty × FitsExpr f.body

-- the first value
abbrev pub FitsGlobal : Global → Type 0
FitsGlobal g = FitsExpr g.init

-- the name and the index
abbrev pub FitsExport : Export → Type 0
FitsExport e = FitsName e.name × Fits32 e.index

-- the table, where the segment begins, and the functions
abbrev pub FitsElem : Elem → Type 0
FitsElem e = Fits32 e.table × FitsExpr e.offset × AllByRecursion Fits32 e.funcs

-- the memory, where the segment begins, and the bytes
abbrev pub FitsData : Data → Type 0
FitsData d = Fits32 d.memory × FitsExpr d.offset × AllByRecursion IsByte d.bytes

-- each part fits
pub record Fits (m : Module) : Type 0 where
  pub imports : AllByRecursion FitsImport m.imports
  pub funcs : AllByRecursion FitsFunc m.funcs
  pub tables : AllByRecursion FitsLimits m.tables
  pub mems : AllByRecursion FitsLimits m.mems
  pub globals : AllByRecursion FitsGlobal m.globals
  pub exports : AllByRecursion FitsExport m.exports
  pub start : FitsOptional m.start
  pub elems : AllByRecursion FitsElem m.elems
  pub datas : AllByRecursion FitsData m.datas
