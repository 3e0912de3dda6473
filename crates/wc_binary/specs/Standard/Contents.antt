-- Globals, segments and codes (Core 1.0, 5.5.9, 5.5.12, 5.5.13 and 5.5.14).
use Rattle.wc_ast.specs.declared.func.Global.{Global}
use Rattle.wc_ast.specs.declared.segment.Elem.{Elem}
use Rattle.wc_ast.specs.declared.segment.Data.{Data}
use Rattle.wc_ast.specs.declared.codes.FuncCode.{FuncCode}
use Rattle.wc_binary.specs.declared.fault.BinWhy.TheVariants.{BodySize}
use Rattle.wc_binary.specs.Standard.Phrase.{Phrase, gives, ◌>>=◌}
use Rattle.wc_binary.specs.Standard.Values.{any_byte, u32, vector, sized}
use Rattle.wc_binary.specs.Standard.Types.{global_type}
use Rattle.wc_binary.specs.Standard.Instructions.{expr}
use Rattle.wc_binary.specs.Standard.Locals.{locals}

-- a global: its type, and the expression of its first value (5.5.9)
unfoldable pub global : Phrase Global
global = do
  t ← global_type
  e ← expr
  gives (record { ty = t; init = e })

-- an element segment: a table, where in it the segment begins, and functions (5.5.12)
unfoldable pub elem_segment : Phrase Elem
elem_segment = do
  x ← u32
  e ← expr
  fs ← vector u32
  gives (record { table = x; offset = e; funcs = fs })

-- a data segment: a memory, where in it the segment begins, and bytes (5.5.14)
unfoldable pub data_segment : Phrase Data
data_segment = do
  x ← u32
  e ← expr
  bs ← vector any_byte
  gives (record { memory = x; offset = e; bytes = bs })

-- what stands behind the size of a code: the locals, and the body (5.5.13)
unfoldable pub func : Phrase FuncCode
func = do
  ls ← locals
  e ← expr
  gives (record { locals = ls; body = e })

-- a code: a size, and content of just that size
unfoldable pub code : Phrase FuncCode
code = sized BodySize func
