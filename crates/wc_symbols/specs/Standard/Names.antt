-- Words that are names of instructions, keywords and value types (Core 1.0, 6.4 to 6.6).
use Rattle.std.specs.Prelude.{◌≡◌, ℕ, IsTrue, List, codes, Option, Some, None}
use Rattle.wc_ops.specs.declared.op.Op.{Op}
use Rattle.wc_ops.specs.declared.op.Op.TheVariants as op
use Rattle.wc_ops.specs.declared.val_type.ValType.TheVariants as type
use Rattle.wc_ops.specs.Standard.Opcodes.{row}
use Rattle.wc_ops.specs.Standard.NameMeaning.{is_float_name}
use Rattle.wc_syntax.specs.declared.kind.Kind.{Kind}
use Rattle.wc_syntax.specs.declared.kind.Kind.TheVariants as kind
use Rattle.wc_symbols.specs.declared.symbol.Symbol.{Symbol}
use Rattle.wc_symbols.specs.declared.symbol.Value.TheVariants.{Instruction, ValType}
use Rattle.wc_symbols.specs.Standard.Symbols.{bare, valued}

-- the kind of an instruction's name, by what follows it
abbrev pub op_kind : Op → Kind
op_kind (op.Simple o) = kind.Simple
op_kind (op.Index o) = kind.Indexed
op_kind (op.Mem o) = kind.Access
op_kind op.BrTable = kind.BrTable
op_kind op.CallIndirect = kind.CallIndirect
op_kind op.I32Const = kind.Const32
op_kind op.I64Const = kind.Const64
op_kind op.Block = kind.Region
op_kind op.Loop = kind.Region
op_kind op.If = kind.If

-- the one word of a kind, where it has one and that is no instruction's name
abbrev pub keyword : Kind → Option (List ℕ)
keyword kind.ThenWord = Some (codes "then")
keyword kind.ElseWord = Some (codes "else")
keyword kind.EndWord = Some (codes "end")
keyword kind.ModuleWord = Some (codes "module")
keyword kind.TypeWord = Some (codes "type")
keyword kind.ImportWord = Some (codes "import")
keyword kind.FuncWord = Some (codes "func")
keyword kind.TableWord = Some (codes "table")
keyword kind.MemoryWord = Some (codes "memory")
keyword kind.GlobalWord = Some (codes "global")
keyword kind.ExportWord = Some (codes "export")
keyword kind.StartWord = Some (codes "start")
keyword kind.ElemWord = Some (codes "elem")
keyword kind.DataWord = Some (codes "data")
keyword kind.OffsetWord = Some (codes "offset")
keyword kind.LocalWord = Some (codes "local")
keyword kind.ParamWord = Some (codes "param")
keyword kind.ResultWord = Some (codes "result")
keyword kind.MutWord = Some (codes "mut")
keyword kind.FuncrefWord = Some (codes "funcref")
keyword _ = None

-- a keyword, or the name of a type
pub data KeywordIs : List ℕ → Symbol → Type 0 where
  word : {text : List ℕ} (k : Kind) → keyword k ≡ Some text → KeywordIs text (bare k)
  i32 : KeywordIs (codes "i32") (valued kind.ValType (ValType type.I32))
  i64 : KeywordIs (codes "i64") (valued kind.ValType (ValType type.I64))
  f32 : KeywordIs (codes "f32") (bare kind.FloatType)
  f64 : KeywordIs (codes "f64") (bare kind.FloatType)

-- a keyword, the name of an instruction, or what is taken for the name of a float instruction
pub data NameIs : List ℕ → Symbol → Type 0 where
  keyword_is : {text : List ℕ} {s : Symbol} → KeywordIs text s → NameIs text s
  instruction : {text : List ℕ} (o : Op) → (row o).name ≡ text → NameIs text (valued (op_kind o) (Instruction o))
  float : {text : List ℕ} → IsTrue (is_float_name text) → NameIs text (bare kind.FloatName)
