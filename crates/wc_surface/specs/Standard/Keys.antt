-- The keys of function types (Core 1.0, 2.3.3): a row of bytes for each.
use Rattle.std.specs.Prelude.{ℕ, List, [], ◌∷◌, ◌++◌, map}
use Rattle.wc_ops.specs.declared.val_type.ValType.{ValType}
use Rattle.wc_ops.specs.Standard.ValueTypes.{value_type_byte}
use Rattle.wc_ast.specs.declared.func_type.FuncType.{FuncType}

-- the function type of these parameters and results
abbrev pub func_type : List ValType → List ValType → FuncType
func_type params results = record { params = params; results = results }

-- the bytes of value types in the binary format (5.3.1), one for each
abbrev pub type_bytes : List ValType → List ℕ
type_bytes ts = map value_type_byte ts

-- behind a zero; nothing where there is no result
abbrev pub result_bytes : List ValType → List ℕ
result_bytes [] = []
result_bytes (t ∷ ts) = 0 ∷ type_bytes (t ∷ ts)

-- parameters and then results
abbrev pub key_of : FuncType → List ℕ
key_of f = type_bytes f.params ++ result_bytes f.results
