-- Types (Core 1.0, 5.3).
use Rattle.std.specs.Prelude.{ℕ, ◌==◌, Bool, true, false, Option, Some, None, Result, Ok, Err, if◌then◌else◌}
use Rattle.std.specs.Option.{ok_or}
use Rattle.wc_ops.specs.declared.val_type.ValType.{ValType}
use Rattle.wc_ops.specs.Standard.ValueTypes.{value_type_of_byte}
use Rattle.wc_ast.specs.declared.func_type.FuncType.{FuncType}
use Rattle.wc_ast.specs.declared.limits.Limits.{Limits}
use Rattle.wc_ast.specs.declared.limits.GlobalType.{GlobalType}
use Rattle.wc_binary.specs.declared.fault.BinWhy.{BinWhy}
use Rattle.wc_binary.specs.declared.fault.BinWhy.TheVariants.{WrongType, Float, Tag}
use Rattle.wc_binary.specs.Standard.Phrase.{Phrase, gives, byte, ◌>>=◌}
use Rattle.wc_binary.specs.Standard.Values.{only, u32, vector}

-- why a byte is no value type's: those of floats are outside the profile
abbrev pub no_type : ℕ → BinWhy
no_type x = if x == 0x7D then Float else (if x == 0x7C then Float else WrongType)

-- the value type of a byte (5.3.1)
abbrev pub value_type_of : ℕ → Result ValType BinWhy
value_type_of x = ok_or (value_type_of_byte x) (no_type x)

-- a value type (5.3.1)
unfoldable pub value_type : Phrase ValType
value_type = byte value_type_of

-- a function type (5.3.3; results: Core 2.0, 5.3.5)
unfoldable pub func_type : Phrase FuncType
func_type = do
  _ ← byte (only 0x60 WrongType)
  params ← vector value_type
  results ← vector value_type
  gives (record { params = params; results = results })

-- zero for no, one for yes
abbrev pub flag_of : ℕ → Result Bool BinWhy
flag_of x = if x == 0 then Ok false else (if x == 1 then Ok true else Err Tag)

-- a byte that says no or yes
unfoldable pub flag : Phrase Bool
flag = byte flag_of

-- the maximum, where there is one
abbrev pub maximum : Bool → Phrase (Option ℕ)
maximum false = gives None
maximum true = u32 >>= λ n. gives (Some n)

-- limits, also as the type of a memory: whether there is a maximum, the minimum, and the maximum (5.3.4 and 5.3.5)
unfoldable pub limits : Phrase Limits
limits = do
  has_max ← flag
  min ← u32
  max ← maximum has_max
  gives (record { min = min; max = max })

-- a table type: that the elements are functions, and limits (5.3.6)
unfoldable pub table_type : Phrase Limits
table_type = byte (only 0x70 WrongType) >>= λ _. limits

-- a global type: the type of the value, and whether it may be written (5.3.7)
unfoldable pub global_type : Phrase GlobalType
global_type = do
  ty ← value_type
  mutable ← flag
  gives (record { ty = ty; mutable = mutable })
